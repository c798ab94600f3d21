-- A block of two heaps: the same objects, one object more, the same line bits.
use Rattle.std.proofs.Common.{◌≡◌, ℕ, ◌+◌, ◌%◌, ◌<◌, ◌≤◌, ◌⊎◌}
use Rattle.heap_layout.specs.Zones.{block_at, block_start}
use Rattle.object_model.specs.Objects.{HeapState, block_word, IsHeld, size_at, line_marked}

-- block k of the two heaps has the same kind and class, and the same objects
pub record SameBlock (s t : HeapState) (k : ℕ) : Type 0 where
  pub there : k < s.blocks
  pub blocks : t.blocks ≡ s.blocks
  pub word : block_word t k % 65536 ≡ block_word s k % 65536
  pub held : (x : ℕ) → IsHeld s x → block_at s.blocks x ≡ k → IsHeld t x × (size_at t x ≡ size_at s x)
  pub back : (x : ℕ) → IsHeld t x → block_at s.blocks x ≡ k → IsHeld s x

-- block k of t has the objects that it has in s, and one of `size` words at the offset; its kind and class are the same
pub record AddsInBlock (s t : HeapState) (k at size : ℕ) : Type 0 where
  pub there : k < s.blocks
  pub blocks : t.blocks ≡ s.blocks
  pub word : block_word t k % 65536 ≡ block_word s k % 65536
  pub below : at < 4096
  pub some : 1 ≤ size
  pub born : IsHeld t (block_start s.blocks k + at)
  pub words : size_at t (block_start s.blocks k + at) ≡ size
  pub held : (x : ℕ) → IsHeld s x → block_at s.blocks x ≡ k → IsHeld t x × (size_at t x ≡ size_at s x)
  pub back : (x : ℕ) → IsHeld t x → block_at s.blocks x ≡ k → (x ≡ block_start s.blocks k + at) ⊎ IsHeld s x

-- block k has the same line bits in both heaps
abbrev pub SameLines : HeapState → HeapState → ℕ → Type 0
SameLines s t k = (line : ℕ) → line < 256 → line_marked t k line ≡ line_marked s k line
