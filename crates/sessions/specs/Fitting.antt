-- Where an object may be placed.
use Rattle.std.specs.Prelude.{◌≡◌, ℕ, ◌+◌, ◌*◌, ◌-◌, ◌<◌, ◌≤◌, ◌⊎◌, ◌||◌, IsTrue, MatchBool, nat_le, Option, Some, find}
use Rattle.std.specs.Prelude.{unwrap_or}
use Rattle.std.specs.List.{range_with_len}
use Rattle.heap_layout.specs.Zones.{block_at, offset_at, block_start}
use Rattle.heap_layout.specs.declared.block.Kind.{Kind}
use Rattle.heap_layout.specs.declared.block.Kind.TheVariants as kinds
use Rattle.object_model.specs.Objects.{HeapState, has_kind, HasKind, class_at, line_marked, is_start, IsHeld, size_at}
use Rattle.object_model.specs.Objects.{cell_words, blocks_for, lines_for, block_count}
use Rattle.sessions.specs.Plans.{Rules, Reserve}
use Rattle.sessions.specs.Grants.{BlockCounts, total_in, used_in, headroom_in, allowance_in, IsGrantable}
use Rattle.sessions.specs.Grants.{IsRunGrantable}
use Rattle.heap_layout.specs.declared.layout.TheConstants.{LINE_WORDS, BLOCK_LINES, BLOCK_WORDS}
use Rattle.object_model.specs.declared.shape.TheConstants.{MAX_MEDIUM_WORDS}

-- the number of Free blocks
abbrev pub free_of : HeapState → ℕ
free_of s = block_count s (λ k. has_kind s k kinds.Free)

-- the number of blocks of large objects
abbrev pub large_of : HeapState → ℕ
large_of s = block_count s (λ k. has_kind s k kinds.LargeHead || has_kind s k kinds.LargeTail)

-- the counts of blocks that reserves and grants go by
abbrev pub counts_of : HeapState → BlockCounts
counts_of s = record { blocks = s.blocks; free = free_of s; large = large_of s }

-- the number of all other blocks
abbrev pub total_of : HeapState → ℕ
total_of s = total_in (counts_of s)

-- the number of blocks in use, without those of large objects
abbrev pub used_of : HeapState → ℕ
used_of s = used_in (counts_of s)

-- the headroom: one block for each 32 blocks of the heap, rounded up
abbrev pub headroom_of : HeapState → ℕ
headroom_of s = headroom_in (counts_of s)

-- a Free block may be granted under this reserve
abbrev pub MayGrant : Reserve → HeapState → Type 0
MayGrant r s = IsGrantable r (counts_of s)

-- the number of Free blocks that mutators may take in an epoch
abbrev pub allowance_of : Reserve → HeapState → ℕ
allowance_of r s = allowance_in r (counts_of s)

-- a run of n Free blocks may be granted, if there is one
abbrev pub MayGrantRun : Reserve → HeapState → ℕ → Type 0
MayGrantRun r s n = IsRunGrantable r (counts_of s) n

-- blocks k to k + n - 1 are Free
pub record IsFreeRun (s : HeapState) (k n : ℕ) : Type 0 where
  pub inside : k + n ≤ s.blocks
  pub free : (j : ℕ) → j < n → HasKind s (k + j) kinds.Free

-- The tail of block k begins at offset `at`: no object of the block ends after it, and it is 0 or
-- the end of one.
pub record IsTail (s : HeapState) (k at : ℕ) : Type 0 where
  pub after : (a : ℕ) → IsHeld s a → block_at s.blocks a ≡ k
      → offset_at s.blocks a + size_at s a ≤ at
  pub least : (at ≡ 0)
      ⊎ ((a : ℕ) × IsHeld s a × (block_at s.blocks a ≡ k)
      × (offset_at s.blocks a + size_at s a ≡ at))

-- the size class for a size in words: the least whose cells have room
abbrev pub class_of : ℕ → Option ℕ
class_of size = find (λ class. nat_le size (cell_words class)) (range_with_len 0 19)

-- the class of a new block for this size, if mutators fill blocks of this kind
abbrev pub class_for : Kind → ℕ → ℕ
class_for kinds.Cells size = unwrap_or (class_of size) 0
class_for kinds.Free size = 0
class_for kinds.Bump size = 0
class_for kinds.Young size = 0
class_for kinds.Mature size = 0
class_for kinds.Immix size = 0
class_for kinds.LargeHead size = 0
class_for kinds.LargeTail size = 0
class_for kinds.Kept size = 0

-- lines `from` to `from + len - 1` of block k are a hole: they are clear, and no line beside them
-- is
pub record IsLineHole (s : HeapState) (k from len : ℕ) : Type 0 where
  pub some : 1 ≤ len
  pub inside : from + len ≤ BLOCK_LINES
  pub clear : (line : ℕ) → from ≤ line → line < from + len → IsTrue (line_marked s k line) → ⊥
  pub before : 0 < from → IsTrue (line_marked s k (from - 1))
  pub after : from + len < BLOCK_LINES → IsTrue (line_marked s k (from + len))

-- a free cell of block k begins at offset `at`
pub record IsFreeCell (s : HeapState) (k at : ℕ) : Type 0 where
  pub index : ℕ
  pub start : at ≡ index * cell_words (class_at s k)
  pub inside : at + cell_words (class_at s k) ≤ BLOCK_WORDS
  pub free : IsTrue (is_start s (block_start s.blocks k + at)) → ⊥

-- a hole of clear lines of block k begins at offset `at` and has room for the size
pub record HasLineHole (s : HeapState) (k at size : ℕ) : Type 0 where
  pub line : ℕ
  pub len : ℕ
  pub start : at ≡ LINE_WORDS * line
  pub hole : IsLineHole s k line len
  pub room : lines_for size ≤ len

-- A hole of block k begins at offset `at` and has room for the size. The block has the kind that
-- mutators fill.
abbrev pub HasHole : Kind → HeapState → ℕ → ℕ → ℕ → Type 0
HasHole kinds.Bump s k at size = HasKind s k kinds.Bump × IsTail s k at × (at + size ≤ BLOCK_WORDS)
HasHole kinds.Young s k at size = HasKind s k kinds.Young × IsTail s k at
    × (at + size ≤ BLOCK_WORDS)
HasHole kinds.Cells s k at size = HasKind s k kinds.Cells × IsFreeCell s k at
    × (class_of size ≡ Some (class_at s k))
HasHole kinds.Immix s k at size = HasKind s k kinds.Immix × HasLineHole s k at size
HasHole kinds.Free s k at size = ⊥
HasHole kinds.Mature s k at size = ⊥
HasHole kinds.LargeHead s k at size = ⊥
HasHole kinds.LargeTail s k at size = ⊥
HasHole kinds.Kept s k at size = ⊥

-- `size` words from offset `from` on lie in the tail of block k
pub record LiesInTail (s : HeapState) (k from size : ℕ) : Type 0 where
  pub at : ℕ
  pub tail : IsTail s k at
  pub after : at ≤ from
  pub inside : from + size ≤ BLOCK_WORDS

-- `size` words from offset `from` on lie in a hole of clear lines of block k
pub record LiesInLineHole (s : HeapState) (k from size : ℕ) : Type 0 where
  pub line : ℕ
  pub len : ℕ
  pub hole : IsLineHole s k line len
  pub after : LINE_WORDS * line ≤ from
  pub inside : from + size ≤ LINE_WORDS * (line + len)

-- `size` words from offset `from` on lie in a hole of block k, which has the kind that mutators
-- fill
abbrev pub LiesInHole : Kind → HeapState → ℕ → ℕ → ℕ → Type 0
LiesInHole kinds.Bump s k from size = HasKind s k kinds.Bump × LiesInTail s k from size
LiesInHole kinds.Young s k from size = HasKind s k kinds.Young × LiesInTail s k from size
LiesInHole kinds.Cells s k from size = HasKind s k kinds.Cells × IsFreeCell s k from
    × (class_of size ≡ Some (class_at s k))
LiesInHole kinds.Immix s k from size = HasKind s k kinds.Immix × LiesInLineHole s k from size
LiesInHole kinds.Free s k from size = ⊥
LiesInHole kinds.Mature s k from size = ⊥
LiesInHole kinds.LargeHead s k from size = ⊥
LiesInHole kinds.LargeTail s k from size = ⊥
LiesInHole kinds.Kept s k from size = ⊥

-- block k has cells of the size's class, and one of them begins at offset `from`
pub record IsCellFor (s : HeapState) (k from size : ℕ) : Type 0 where
  pub kind : HasKind s k kinds.Cells
  pub class : class_of size ≡ Some (class_at s k)
  pub index : ℕ
  pub start : from ≡ index * cell_words (class_at s k)

-- required if mutators fill cells
abbrev pub HasCellFor : Kind → HeapState → ℕ → ℕ → ℕ → Type 0
HasCellFor fill s k from size = fill ≡ kinds.Cells → IsCellFor s k from size

-- there is a hole with room for the size
pub record HasSomeHole (fill : Kind) (s : HeapState) (size : ℕ) : Type 0 where
  pub block : ℕ
  pub offset : ℕ
  pub hole : HasHole fill s block offset size

-- there is a hole with room for the size, or a Free block may be granted
abbrev pub FitsSmall : Rules → HeapState → ℕ → Type 0
FitsSmall r s size = HasSomeHole r.fill s size ⊎ MayGrant r.reserve s

-- there is a run of n Free blocks that may be granted
pub record FitsLarge (r : Rules) (s : HeapState) (n : ℕ) : Type 0 where
  pub granted : MayGrantRun r.reserve s n
  pub block : ℕ
  pub run : IsFreeRun s block n

-- an object of this size in words may be placed
abbrev pub Fits : Rules → HeapState → ℕ → Type 0
Fits r s size =
    MatchBool (nat_le size MAX_MEDIUM_WORDS) (FitsSmall r s size) (FitsLarge r s (blocks_for size))
