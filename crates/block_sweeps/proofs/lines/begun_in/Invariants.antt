use Rattle.std.proofs.Common.{◌*◌}
use Rattle.object_model.specs.Objects.{state_over}
use Rattle.block_sweeps.specs.Touches.{AreBegunFrom}
use Rattle.block_sweeps.proofs.lines.begun_in.Given as goal

abbrev pub invariant-loop-index : goal.invariant-loop-index
invariant-loop-index g l = AreBegunFrom (state_over (g.W.Words.words l.words) l.layout 0 0) l.block (64 * l.word) (4 * l.index) l.begun
