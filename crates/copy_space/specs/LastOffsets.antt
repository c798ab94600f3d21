-- Where the last object of a block begins.
use Rattle.std.specs.Prelude.{◌≡◌, ℕ, ◌+◌, ◌<◌, ◌≤◌}
use Rattle.heap_layout.specs.Zones.{block_at, offset_at, block_start}
use Rattle.heap_layout.specs.declared.layout.TheConstants.{BLOCK_WORDS}
use Rattle.object_model.specs.Objects.{HeapState, IsHeld, IsInExtent}

-- no object begins in block k
abbrev pub HasNone : HeapState → ℕ → Type 0
HasNone s k = (a : ℕ) → IsHeld s a → block_at s.blocks a ≡ k → ⊥

-- an object begins at this offset of block k, and each other one that begins in it before
pub record IsLast (s : HeapState) (k offset : ℕ) : Type 0 where
  pub inside : offset < BLOCK_WORDS
  pub held : IsHeld s (block_start s.blocks k + offset)
  pub last : (a : ℕ) → IsHeld s a → block_at s.blocks a ≡ k → offset_at s.blocks a ≤ offset

-- no held object has a word in block k at this offset or after it
abbrev pub HasNoWordFrom : HeapState → ℕ → ℕ → Type 0
HasNoWordFrom s k at = (a i : ℕ) → IsHeld s a → IsInExtent s a i → block_at s.blocks i ≡ k
    → offset_at s.blocks i < at
