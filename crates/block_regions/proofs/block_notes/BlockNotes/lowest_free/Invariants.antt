use Rattle.std.proofs.Common.{ℕ, ◌<◌}
use Rattle.heap_layout.specs.declared.block.Kind.TheVariants as kinds
use Rattle.object_model.specs.Objects.{HasKind}
use Rattle.object_model.specs.Heaps.{heap_state}
use Rattle.block_regions.proofs.block_notes.BlockNotes.lowest_free.Given as goal

abbrev pub invariant-loop-block : goal.invariant-loop-block
invariant-loop-block l = (k : ℕ) → k < l.block → HasKind (heap_state l.heap) k kinds.Free → ⊥
