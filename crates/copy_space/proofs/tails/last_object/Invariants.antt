use Rattle.std.proofs.Common.{◌*◌}
use Rattle.object_model.specs.Objects.{state_over}
use Rattle.copy_space.proofs.LastObjects.{AllBefore}
use Rattle.copy_space.proofs.tails.last_object.Given as goal

abbrev pub invariant-loop-index : goal.invariant-loop-index
invariant-loop-index g l = AllBefore (state_over (g.W.Words.words l.words) l.layout 0 0) l.block (64 * l.index)
