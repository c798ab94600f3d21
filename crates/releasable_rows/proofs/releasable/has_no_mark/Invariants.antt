use Rattle.object_model.specs.Objects.{state_over}
use Rattle.releasable_rows.specs.BlockTests.{HasNoMark}
use Rattle.releasable_rows.proofs.releasable.has_no_mark.Given as goal

abbrev pub invariant-loop-address : goal.invariant-loop-address
invariant-loop-address g l = HasNoMark (state_over (g.W.Words.words l.words) l.layout 0 0) l.from l.address
