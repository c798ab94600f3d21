use Rattle.std.proofs.Common.{◌≤◌, vec_len, vec_capacity}
use Rattle.trace_text.specs.Text.{mutator_text}
use Rattle.driver.proofs.Sending.{Sends}
use Rattle.driver.proofs.writing.write_replies.Given as goal

abbrev pub invariant-loop-reply : goal.invariant-loop-reply
invariant-loop-reply g l =
    let s = g.O.Sink in record {
      few : vec_len l.text ≤ 65490;
      room : 65536 ≤ vec_capacity l.text;
      later : (s.state l.fn.out).faults ≤ (s.state l.out).faults;
      sent : Sends (s.state l.fn.out).written (s.state l.out).written l.text.items (mutator_text l.fn.mutator l.yielded);
    }
