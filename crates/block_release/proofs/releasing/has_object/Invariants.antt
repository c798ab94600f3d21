use Rattle.std.proofs.Common.{◌*◌}
use Rattle.object_model.specs.Objects.{state_over}
use Rattle.block_release.proofs.BlockReads.{AllFrom}
use Rattle.block_release.proofs.releasing.has_object.Given as goal

abbrev pub invariant-loop-index : goal.invariant-loop-index
invariant-loop-index g l = AllFrom (state_over (g.W.Words.words l.words) l.layout 0 0) l.block (64 * l.index)
