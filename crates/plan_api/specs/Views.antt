-- The view of a block of a heap.
use Rattle.heap_layout.specs.declared.layout.TheConstants.{BLOCK_LINES, BLOCK_WORDS}
use Rattle.std.specs.Prelude.{◌≡◌, ℕ, ◌+◌, ◌<◌, ◌≤◌, ◌⊎◌}
use Rattle.heap_layout.specs.Zones.{block_at, offset_at, block_start}
use Rattle.heap_layout.specs.Blocks.{code_of, IsValidWord}
use Rattle.object_model.specs.Objects.{HeapState, block_word, line_marked, is_start, IsHeld, size_at}
use Rattle.line_marks.specs.Bits.{bit_in}
use Rattle.plan_api.specs.declared.block_view.BlockView.{BlockView}

-- a is the address of the last object that begins in block k, which ends before the offset `end`
pub record IsLastObject (s : HeapState) (k end a : ℕ) : Type 0 where
  pub held : IsHeld s a
  pub here : block_at s.blocks a ≡ k
  pub last : (x : ℕ) → IsHeld s x → block_at s.blocks x ≡ k → x ≤ a
  pub ends : offset_at s.blocks a + size_at s a ≡ end

-- no object begins in block k
abbrev pub HasNoObject : HeapState → ℕ → Type 0
HasNoObject s k = (x : ℕ) → IsHeld s x → block_at s.blocks x ≡ k → ⊥

-- `end` is the offset after the last object that begins in block k, or 0 if none begins there
abbrev pub IsObjectsEnd : HeapState → ℕ → ℕ → Type 0
IsObjectsEnd s k end = (HasNoObject s k × (end ≡ 0)) ⊎ ((a : ℕ) × IsLastObject s k end a)

-- v is the view of block k: its block word, its line bits, its start bits, and the end of its last
-- object
pub record IsViewOf (s : HeapState) (k : ℕ) (v : BlockView) : Type 0 where
  pub block : k < s.blocks
  pub code : code_of v.word ≡ block_word s k
  pub valid : IsValidWord v.word
  pub lines : (line : ℕ) → line < BLOCK_LINES → bit_in v.lines line ≡ line_marked s k line
  pub starts : (w : ℕ) → w < BLOCK_WORDS
      → bit_in v.starts w ≡ is_start s (block_start s.blocks k + w)
  pub end : IsObjectsEnd s k v.end
