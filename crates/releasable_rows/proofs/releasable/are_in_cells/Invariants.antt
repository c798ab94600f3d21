use Rattle.object_model.specs.Objects.{state_over}
use Rattle.releasable_rows.specs.BlockTests.{AreInCells}
use Rattle.releasable_rows.proofs.releasable.are_in_cells.Given as goal

abbrev pub invariant-loop-offset : goal.invariant-loop-offset
invariant-loop-offset g l = AreInCells (state_over (g.W.Words.words l.words) l.layout 0 0) l.block l.cell l.offset
