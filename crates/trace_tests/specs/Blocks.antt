-- Blocks of large objects.
use Rattle.std.specs.Prelude.{ℕ, ◌<◌, Bool, ◌||◌, IsTrue}
use Rattle.heap_layout.specs.declared.block.Kind.TheVariants as kinds
use Rattle.object_model.specs.Objects.{HeapState, has_kind}

-- the block is of a large object
abbrev pub is_large : HeapState → ℕ → Bool
is_large s b = has_kind s b kinds.LargeHead || has_kind s b kinds.LargeTail

-- no block of the heap is
abbrev pub HasSmall : HeapState → Type 0
HasSmall s = (b : ℕ) → b < s.blocks → IsTrue (is_large s b) → ⊥
