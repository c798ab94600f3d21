use Rattle.std.proofs.Common.{◌≡◌, ◌≤◌, [], vec_capacity}
use Rattle.outside.specs.Outside.{AppendsText}
use Rattle.sessions.specs.Sessions.{Setting, Moment}
use Rattle.mm_runtime.specs.Managers.{Closes}
use Rattle.driver.specs.Texts.{replies_part}
use Rattle.driver.proofs.writing.write_all_replies.Given as goal

abbrev pub invariant-loop-m : goal.invariant-loop-m
invariant-loop-m g l =
    let s = g.O.Sink in record {
      empty : l.piece.items ≡ [];
      room : 65536 ≤ vec_capacity l.piece;
      later : (s.state l.fn.out).faults ≤ (s.state l.out).faults;
      written : (t : Setting) (last : Moment) → Closes g.P.Plan.rules l.manager t last → AppendsText (s.state l.fn.out).written (s.state l.out).written (replies_part l.m last);
    }
