use Rattle.std.proofs.Common.{◌≤◌, ◌-◌, take, length}
use Rattle.outside.specs.Outside.{AppendsText}
use Rattle.outside.proofs.writer.write_text.Given as goal

abbrev pub invariant-loop-at : goal.invariant-loop-at
invariant-loop-at g l =
    let s = g.O.Sink in record {
      within : l.at ≤ length l.text;
      later : (s.state l.fn.out).faults ≤ (s.state l.out).faults;
      written : AppendsText (s.state l.fn.out).written (s.state l.out).written (take l.at l.text);
    }

abbrev pub decreases-loop-at : goal.decreases-loop-at
decreases-loop-at g l = length l.text - l.at
