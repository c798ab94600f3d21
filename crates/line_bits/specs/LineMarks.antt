-- Marks of the lines that an object touches.
use Rattle.std.specs.Prelude.{◌≡◌, ℕ, ◌+◌, ◌/◌, ◌<◌, ◌≤◌, ◌^◌, ◌⊎◌, IsTrue, List, length, slice_index}
use Rattle.heap_layout.specs.Zones.{LineWords, first, bit_of}
use Rattle.object_model.specs.Lines.{TouchesLine}
use Rattle.object_model.specs.Objects.{HeapState, word_at}
use Rattle.side_meta.specs.BitWords.{has_bit}
use Rattle.side_meta.specs.declared.word.TheConstants.{BITS_PER_WORD}

-- word i has the bit of a line that an object of this size at address a touches
pub record HasTouched (b a size i : ℕ) : Type 0 where
  pub line : ℕ
  pub touches : TouchesLine b a size line
  pub word : i ≡ first b LineWords + line / BITS_PER_WORD

-- line n of the heap is marked
abbrev pub LineIsMarked : HeapState → ℕ → Type 0
LineIsMarked s n = IsTrue (bit_of s.blocks LineWords s.words n)

-- The lines that an object of this size at address a touches were marked, and nothing else changed.
-- Only words with bits of these lines were changed, and each word has 64 bits if it had before.
pub record MarksLines (s s' : HeapState) (a size : ℕ) : Type 0 where
  pub marked : (n : ℕ) → TouchesLine s.blocks a size n → LineIsMarked s' n
  pub kept : (n : ℕ) → LineIsMarked s n → LineIsMarked s' n
  pub only : (n : ℕ) → LineIsMarked s' n → LineIsMarked s n ⊎ TouchesLine s.blocks a size n
  pub blocks : s'.blocks ≡ s.blocks
  pub extent : length s'.words ≡ length s.words
  pub others : (i : ℕ) → (HasTouched s.blocks a size i → ⊥) → word_at s' i ≡ word_at s i
  pub fit : ((i : ℕ) → word_at s i < 2 ^ 64) → (i : ℕ) → word_at s' i < 2 ^ 64

-- n is one of the numbers `from` to `to`
pub record IsFromTo (from to n : ℕ) : Type 0 where
  pub after : from ≤ n
  pub most : n ≤ to

-- Bits `low` to `high` of the word at this index were set, and nothing else changed.
pub record SetsRun (old new : List ℕ) (index low high : ℕ) : Type 0 where
  pub extent : length new ≡ length old
  pub added : (k : ℕ) → IsFromTo low high k → IsTrue (has_bit (slice_index new index) k)
  pub kept : (k : ℕ) → IsTrue (has_bit (slice_index old index) k)
      → IsTrue (has_bit (slice_index new index) k)
  pub only : (k : ℕ) → IsTrue (has_bit (slice_index new index) k)
      → IsTrue (has_bit (slice_index old index) k) ⊎ IsFromTo low high k
  pub others : (i : ℕ) → (i ≡ index → ⊥) → slice_index new i ≡ slice_index old i
  pub fit : ((i : ℕ) → slice_index old i < 2 ^ 64) → (i : ℕ) → slice_index new i < 2 ^ 64
