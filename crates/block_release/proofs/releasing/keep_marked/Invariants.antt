use Rattle.std.proofs.Common.{ℕ, ◌*◌, ◌-◌}
use Rattle.object_model.specs.Objects.{state_over}
use Rattle.block_sweeps.specs.WordSweeps.{SweepsWords}
use Rattle.block_release.specs.Released.{UnlogBitsMarkSurvivors}
use Rattle.block_release.proofs.releasing.keep_marked.Given as goal

abbrev pub invariant-loop-index : goal.invariant-loop-index
invariant-loop-index l = (base : ℕ) → UnlogBitsMarkSurvivors base (state_over l.fn.words l.layout 0 0) l.block
    → SweepsWords base (64 * l.block) (l.index - 64 * l.block) (state_over l.fn.words l.layout 0 0) (state_over l.words l.layout 0 0)
