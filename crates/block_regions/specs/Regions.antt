-- What is left of a block for the next objects of its owner.
use Rattle.heap_layout.specs.declared.layout.TheConstants.{BLOCK_WORDS, LINE_WORDS}
use Rattle.heap_layout.specs.Zones.{block_at, offset_at}
use Rattle.heap_layout.specs.declared.block.Kind.{Kind}
use Rattle.heap_layout.specs.declared.block.Kind.TheVariants as kinds
use Rattle.heap_layout.specs.declared.region.Region.{Region}
use Rattle.std.specs.Prelude.{◌≡◌, ℕ, ◌+◌, ◌*◌, ◌/◌, ◌<◌, ◌≤◌, ◌⊎◌, IsTrue}
use Rattle.object_model.specs.Objects.{HeapState, class_at, cell_words, line_marked, IsHeld, IsInExtent, size_at}
use Rattle.sessions.specs.Fitting.{IsTail, IsLineHole, HasHole}
use Rattle.plan_api.specs.Prelude.{IsNextCell, HasNoCell}

-- the region is the tail of block k
pub record IsTailLeft (s : HeapState) (k : ℕ) (region : Region) : Type 0 where
  pub tail : IsTail s k region.next
  pub inside : region.next ≤ region.end
  pub end : region.end ≡ BLOCK_WORDS

-- The region is the first free cell of block k that begins at or after the offset `from`, or has no
-- words if none does.
pub data IsCellLeft (s : HeapState) (k from : ℕ) (region : Region) : Type 0 where
  free : IsNextCell s k from region.next → region.end ≡ region.next + cell_words (class_at s k)
      → IsCellLeft s k from region
  full : HasNoCell s k from → region.next ≡ BLOCK_WORDS → region.end ≡ BLOCK_WORDS
      → IsCellLeft s k from region

-- an object of block k ends at this offset
abbrev pub HasObjectEndingAt : HeapState → ℕ → ℕ → Type 0
HasObjectEndingAt s k at = (a : ℕ) × IsHeld s a × (block_at s.blocks a ≡ k)
    × (offset_at s.blocks a + size_at s a ≡ at)

-- The region is what is left of a hole of clear lines of block k: it begins with the hole, or where
-- an object ends, and ends with the hole. No object of the block has a word in it, and none touches
-- a clear line after it.
pub record IsLinesLeft (s : HeapState) (k : ℕ) (region : Region) : Type 0 where
  pub line : ℕ
  pub len : ℕ
  pub hole : IsLineHole s k line len
  pub begins : (region.next ≡ LINE_WORDS * line) ⊎ ((LINE_WORDS * line ≤ region.next)
      × HasObjectEndingAt s k region.next)
  pub inside : region.next ≤ region.end
  pub end : region.end ≡ LINE_WORDS * (line + len)
  pub clear : (a i : ℕ) → IsHeld s a → block_at s.blocks a ≡ k → IsInExtent s a i
      → block_at s.blocks i ≡ k
      → region.next ≤ offset_at s.blocks i → offset_at s.blocks i < region.end → ⊥
  pub rest : (a i : ℕ) → IsHeld s a → block_at s.blocks a ≡ k → IsInExtent s a i
      → block_at s.blocks i ≡ k
      → region.end ≤ offset_at s.blocks i
      → IsTrue (line_marked s k (offset_at s.blocks i / LINE_WORDS))

-- The region is what is left of block k, which has this kind: its tail, its first free cell, or
-- what is left of a hole.
abbrev pub IsRegionIn : Kind → HeapState → ℕ → Region → Type 0
IsRegionIn kinds.Bump s k region = IsTailLeft s k region
IsRegionIn kinds.Young s k region = IsTailLeft s k region
IsRegionIn kinds.Cells s k region = IsCellLeft s k 0 region
IsRegionIn kinds.Free s k region = ⊥
IsRegionIn kinds.Mature s k region = ⊥
IsRegionIn kinds.Immix s k region = IsLinesLeft s k region
IsRegionIn kinds.LargeHead s k region = ⊥
IsRegionIn kinds.LargeTail s k region = ⊥
IsRegionIn kinds.Kept s k region = ⊥

-- the first hole of block k with room for the size begins at offset `at`
pub record BeginsHole (fill : Kind) (s : HeapState) (k at size : ℕ) : Type 0 where
  pub hole : HasHole fill s k at size
  pub first : (from : ℕ) → HasHole fill s k from size → at ≤ from

-- where the region of a clear block of this kind and class ends: with its first cell, or with the
-- block
abbrev pub first_region_end : Kind → ℕ → ℕ
first_region_end kinds.Cells class = cell_words class
first_region_end _ class = BLOCK_WORDS

-- the region of a clear block: its first cell, or all of it
abbrev pub first_region : Kind → ℕ → Region
first_region fill class = record { next = 0; end = first_region_end fill class }

-- the region without its first `size` words
abbrev pub without_first : ℕ → Region → Region
without_first size region = record { next = region.next + size; end = region.end }

-- `rest` is what an object of `size` words at the start of the region leaves of block k.
abbrev pub IsRestAfter : Kind → HeapState → ℕ → ℕ → Region → Region → Type 0
IsRestAfter kinds.Bump s k size region rest = rest ≡ without_first size region
IsRestAfter kinds.Young s k size region rest = rest ≡ without_first size region
IsRestAfter kinds.Cells s k size region rest = IsCellLeft s k region.end rest
IsRestAfter kinds.Free s k size region rest = ⊥
IsRestAfter kinds.Mature s k size region rest = ⊥
IsRestAfter kinds.Immix s k size region rest = rest ≡ without_first size region
IsRestAfter kinds.LargeHead s k size region rest = ⊥
IsRestAfter kinds.LargeTail s k size region rest = ⊥
IsRestAfter kinds.Kept s k size region rest = ⊥
