-- When a block may be released: what the release of one block asks of the row.
use Rattle.std.specs.Prelude.{◌≡◌, ℕ, ◌+◌, ◌<◌, ◌⊎◌, ◌||◌, IsTrue}
use Rattle.heap_layout.specs.declared.layout.TheConstants.{BLOCK_LINES}
use Rattle.heap_layout.specs.Zones.{block_at, block_start, IsAddress}
use Rattle.heap_layout.specs.declared.block.Kind.TheVariants as kinds
use Rattle.heap_layout.specs.Blocks.{is_block_code}
use Rattle.object_model.specs.Objects.{HeapState, block_word, HasKind, class_at, line_marked, is_start, is_pinned}
use Rattle.object_model.specs.Objects.{is_unlogged, IsHeld, size_at, IsInExtent}
use Rattle.object_model.specs.Lawful.{HasObject, Lies}
use Rattle.object_model.specs.declared.shape.TheConstants.{MAX_MEDIUM_WORDS}

-- the address is in block k, or in a later block of the large run that begins in block k
pub record InSpan (s : HeapState) (k a : ℕ) : Type 0 where
  pub address : IsAddress s.blocks a
  pub block : (block_at s.blocks a ≡ k)
      ⊎ (HasKind s k kinds.LargeHead × (k < block_at s.blocks a)
      × (block_at s.blocks a < k + class_at s k))

-- Block k may be released. It asks nothing of other blocks, of names, or of what fields refer to:
-- after a trace a moved object and its copy have one name, and dead objects may refer to anything.
pub record IsReleasable (s : HeapState) (k : ℕ) : Type 0 where
  pub code : IsTrue (is_block_code (block_word s k))
  pub objects : (a : ℕ) → InSpan s k a → IsHeld s a → HasObject s a × Lies s a (size_at s a)
  pub apart : (a x i : ℕ) → InSpan s k a → InSpan s k x → IsHeld s a → IsHeld s x → IsInExtent s a i
      → IsInExtent s x i → a ≡ x
  -- pin and unlog bits are set only at held objects
  pub marks : (a : ℕ) → InSpan s k a → IsTrue (is_pinned s a || is_unlogged s a) → IsHeld s a
  -- a Free block has no bit set
  pub bits : HasKind s k kinds.Free → (a : ℕ) → block_at s.blocks a ≡ k
      → IsTrue (is_start s a || is_pinned s a || is_unlogged s a) → ⊥
  pub lines : HasKind s k kinds.Free → (line : ℕ) → line < BLOCK_LINES
      → IsTrue (line_marked s k line) → ⊥
  -- a large object begins in the first block of a run
  pub head : HasKind s k kinds.LargeHead → IsHeld s (block_start s.blocks k)
      × (MAX_MEDIUM_WORDS < size_at s (block_start s.blocks k))
