-- Line bits in a list of words, and the lines that objects touch.
use Rattle.std.specs.Prelude.{◌≡◌, ℕ, ◌+◌, ◌*◌, ◌/◌, ◌%◌, ◌<◌, ◌≤◌, ◌⊎◌, Bool, IsTrue, List, length, slice_index}
use Rattle.std.specs.Prelude.{nat_eq}
use Rattle.std.specs.Int.{bit_at}
use Rattle.heap_layout.specs.Zones.{block_start}
use Rattle.heap_layout.specs.declared.layout.TheConstants.{BLOCK_LINES, BLOCK_WORDS, LINE_WORDS}
use Rattle.line_bits.specs.LineMarks.{IsFromTo}
use Rattle.object_model.specs.Lines.{TouchesLine}
use Rattle.object_model.specs.Objects.{HeapState, is_start, size_at}
use Rattle.side_meta.specs.declared.word.TheConstants.{BITS_PER_WORD}

-- bit n of a list of words
abbrev pub has_line : List ℕ → ℕ → Bool
has_line lines n = nat_eq (bit_at (slice_index lines (n / BITS_PER_WORD)) (n % BITS_PER_WORD)) 1

-- these bits were set, and no other bit changed
pub record AddsLines (Added : ℕ → Type 0) (old new : List ℕ) : Type 0 where
  pub extent : length new ≡ length old
  pub added : (n : ℕ) → Added n → IsTrue (has_line new n)
  pub kept : (n : ℕ) → IsTrue (has_line old n) → IsTrue (has_line new n)
  pub only : (n : ℕ) → IsTrue (has_line new n) → IsTrue (has_line old n) ⊎ Added n

-- an object at this offset of block k touches this line of the block
abbrev pub TouchesAt : HeapState → ℕ → ℕ → ℕ → Type 0
TouchesAt s k offset line = TouchesLine s.blocks (block_start s.blocks k + offset)
    (size_at s (block_start s.blocks k + offset)) (BLOCK_LINES * k + line)

-- an object that begins at an offset of block k from `from` on, before `to`, touches this line of
-- the block
pub record IsTouchedFrom (s : HeapState) (k from to line : ℕ) : Type 0 where
  pub offset : ℕ
  pub after : from ≤ offset
  pub below : offset < to
  pub start : IsTrue (is_start s (block_start s.blocks k + offset))
  pub touches : TouchesAt s k offset line

-- an object begins in this line of block k, a number below 256
pub record BeginsIn (s : HeapState) (k line : ℕ) : Type 0 where
  pub offset : ℕ
  pub from : LINE_WORDS * line ≤ offset
  pub below : offset < LINE_WORDS * (line + 1)
  pub start : IsTrue (is_start s (block_start s.blocks k + offset))

-- these are the start bits of the 64 addresses of block k from offset 64 * index on
pub record AreStarts (s : HeapState) (k index bits : ℕ) : Type 0 where
  pub set : (i : ℕ) → i < BITS_PER_WORD → bit_at bits i ≡ 1
      → IsTrue (is_start s (block_start s.blocks k + (BITS_PER_WORD * index + i)))
  pub all : (i : ℕ) → i < BITS_PER_WORD
      → IsTrue (is_start s (block_start s.blocks k + (BITS_PER_WORD * index + i)))
      → bit_at bits i ≡ 1

-- these are the bits of line 0, 1, 2 or 3 of a word, in their places
pub record AreBitsOf (line word bits : ℕ) : Type 0 where
  pub set : (i : ℕ) → bit_at bits i ≡ 1 → IsFromTo (16 * line) (16 * line + 15) i
      × (bit_at word i ≡ 1)
  pub all : (i : ℕ) → IsFromTo (16 * line) (16 * line + 15) i → bit_at word i ≡ 1
      → bit_at bits i ≡ 1

-- the lines were added that objects touch which begin at an offset from `from` on, before `to`, and
-- maybe some that other objects of the block touch
pub record MarksFrom (s : HeapState) (k from to : ℕ) (old new : List ℕ) : Type 0 where
  pub extent : length new ≡ length old
  pub kept : (n : ℕ) → IsTrue (has_line old n) → IsTrue (has_line new n)
  pub added : (n : ℕ) → IsTouchedFrom s k from to n → IsTrue (has_line new n)
  pub only : (n : ℕ) → IsTrue (has_line new n)
      → IsTrue (has_line old n) ⊎ IsTouchedFrom s k 0 BLOCK_WORDS n

-- an object begins in this line of block k, which is one from `from` on, before `to`
pub record BeginsFrom (s : HeapState) (k from to line : ℕ) : Type 0 where
  pub after : from ≤ line
  pub below : line < to
  pub begins : BeginsIn s k line

-- these are the bits of the 64 lines of block k from 64 * word on in which objects begin
pub record AreBegun (s : HeapState) (k word bits : ℕ) : Type 0 where
  pub set : (i : ℕ) → i < BITS_PER_WORD → bit_at bits i ≡ 1
      → BeginsIn s k (BITS_PER_WORD * word + i)
  pub all : (i : ℕ) → i < BITS_PER_WORD → BeginsIn s k (BITS_PER_WORD * word + i)
      → bit_at bits i ≡ 1

-- Of 64 bits these are set: bit i below `count` if an object begins in line `first + i` of block k.
pub record AreBegunFrom (s : HeapState) (k first count bits : ℕ) : Type 0 where
  pub set : (i : ℕ) → i < BITS_PER_WORD → bit_at bits i ≡ 1 → (i < count) × BeginsIn s k (first + i)
  pub all : (i : ℕ) → i < count → BeginsIn s k (first + i) → bit_at bits i ≡ 1

-- the lines that objects touch which begin in this line of block k are among these
abbrev pub HasLinesOf : HeapState → ℕ → ℕ → List ℕ → Type 0
HasLinesOf s k line lines = (n : ℕ) → IsTouchedFrom s k (16 * line) (16 * line + 16) n
    → IsTrue (has_line lines n)

-- Of the objects that begin in a line from `from` on, before `to`, the lines were added, unless
-- others begin in the next line; and maybe some lines that other objects of the block touch.
pub record AddsEnds (s : HeapState) (k from to : ℕ) (old new : List ℕ) : Type 0 where
  pub extent : length new ≡ length old
  pub kept : (n : ℕ) → IsTrue (has_line old n) → IsTrue (has_line new n)
  pub ends : (line : ℕ) → from ≤ line → line < to → BeginsIn s k line
      → BeginsFrom s k 0 BLOCK_LINES (line + 1) ⊎ HasLinesOf s k line new
  pub only : (n : ℕ) → IsTrue (has_line new n)
      → IsTrue (has_line old n) ⊎ IsTouchedFrom s k 0 BLOCK_WORDS n
