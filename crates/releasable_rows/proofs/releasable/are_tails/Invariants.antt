use Rattle.object_model.specs.Objects.{state_over}
use Rattle.releasable_rows.specs.BlockTests.{AreTails}
use Rattle.releasable_rows.proofs.releasable.are_tails.Given as goal

abbrev pub invariant-loop-block : goal.invariant-loop-block
invariant-loop-block g l = AreTails (state_over (g.W.Words.words l.words) l.layout 0 0) l.from l.block
