-- Two rows with the same objects, which may differ in bits of lines and unlog bits.
use Rattle.std.proofs.Common.{◌≡◌, sym, ap, ◌∙◌, ℕ, ◌+◌, ◌/◌, ◌%◌, ◌<◌, ◌≤◌, arith, List}
use Rattle.heap_layout.specs.Zones.{heap_of}
use Rattle.ideal_heap.specs.Names.{name_of}
use Rattle.object_model.specs.Objects.{HeapState, with_words, word_at, global_at, is_start, is_pinned, IsHeld, name_at, refs_at, nums_at, size_at, ref_at, size_of}

-- the words of the heap, the globals, and the start and pin bits are the same
pub record SameObjects (s : HeapState) (w : List ℕ) : Type 0 where
  pub words : (i : ℕ) → heap_of s.blocks ≤ i → word_at (with_words s w) i ≡ word_at s i
  pub globals : (g : ℕ) → g < 16 → global_at (with_words s w) g ≡ global_at s g
  pub starts : (x : ℕ) → is_start (with_words s w) x ≡ is_start s x
  pub pins : (x : ℕ) → is_pinned (with_words s w) x ≡ is_pinned s x

module _ (s : HeapState) (w : List ℕ) (same : SameObjects s w) where
  abbrev given : HeapState
  given = with_words s w

  pub held-after : (x : ℕ) → IsHeld s x → IsHeld given x
  held-after x holds = record { address = holds.address; start = same.starts x ∙ holds.start }

  pub held-before : (x : ℕ) → IsHeld given x → IsHeld s x
  held-before x holds = record { address = holds.address; start = sym (same.starts x) ∙ holds.start }

  pub at : (x i : ℕ) → IsHeld s x → word_at given (x + i) ≡ word_at s (x + i)
  at x i holds = same.words (x + i) (let from : heap_of s.blocks ≤ x = holds.address.from in omega arith)

  pub name-same : (x : ℕ) → IsHeld s x → name_at given x ≡ name_at s x
  name-same x holds = ap name_of (same.words x holds.address.from)

  pub refs-same : (x : ℕ) → IsHeld s x → refs_at given x ≡ refs_at s x
  refs-same x holds = ap (λ v. v % 65536) (at x 1 holds)

  pub nums-same : (x : ℕ) → IsHeld s x → nums_at given x ≡ nums_at s x
  nums-same x holds = ap (λ v. v / 65536) (at x 1 holds)

  pub size-same : (x : ℕ) → IsHeld s x → size_at given x ≡ size_at s x
  size-same x holds = ap (λ v. size_of (v % 65536) (v / 65536)) (at x 1 holds)

  pub ref-same : (x i : ℕ) → IsHeld s x → ref_at given x i ≡ ref_at s x i
  ref-same x i holds = same.words (x + 3 + i) (let from : heap_of s.blocks ≤ x = holds.address.from in omega arith)
