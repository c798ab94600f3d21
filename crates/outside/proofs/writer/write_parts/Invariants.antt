use Rattle.std.proofs.Common.{◌≤◌, take}
use Rattle.std.specs.List.{flat_map}
use Rattle.outside.specs.Outside.{AppendsText}
use Rattle.outside.proofs.writer.write_parts.Given as goal

abbrev pub invariant-loop-part : goal.invariant-loop-part
invariant-loop-part g l =
    let s = g.O.Sink in record {
      later : (s.state l.fn.out).faults ≤ (s.state l.out).faults;
      written : AppendsText (s.state l.fn.out).written (s.state l.out).written (flat_map (λ part. part.now) (take l.part-index l.parts));
    }
