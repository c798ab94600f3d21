-- The regions that one mutator allocates in, however a world stores them; and what it may fill with
-- them under any plan.
use Rattle.std.specs.Prelude.{◌≡◌, ℕ, ◌<◌, ◌⊎◌, Option, Some, unwrap_or}
use Rattle.heap_layout.specs.declared.layout.TheConstants.{LINE_WORDS}
use Rattle.heap_layout.specs.declared.block.Kind.{Kind}
use Rattle.heap_layout.specs.declared.block.Kind.TheVariants as kinds
use Rattle.heap_layout.specs.declared.region.Region.{Region}
use Rattle.object_model.specs.Objects.{HeapState, HasKind, owner_at}
use Rattle.sessions.specs.Fitting.{HasHole, class_for}
use Rattle.plan_api.specs.declared.cursors.Cursors.{Cursors}
use Rattle.plan_api.specs.Cursors.{RegionHasRoom, TriesOverflow, LacksRoom}
use Rattle.plan_api.specs.Holes.{HasRoomFrom, IsFirstPart}
use Rattle.block_regions.specs.Regions.{BeginsHole}

-- mutators fill runs of clear lines in blocks of this kind
abbrev pub FillsLines : Kind → Type 0
FillsLines fill = fill ≡ kinds.Immix

-- the words of a block from an offset up to an end
abbrev pub part : ℕ → ℕ → Region
part next end = record { next = next; end = end }

-- A mutator's regions: by class, the block that it allocates objects of the class in; the block of
-- its overflow region; and what is left of a block for its owner, or no words if there is no block.
-- Without cells each object has class 0. Under a plan with lines the block of class 0 is that of
-- the hole region.
pub record MutatorRegions : Type 0 where
  pub blocks : ℕ → Option ℕ
  pub over : Option ℕ
  pub left : Option ℕ → Region

-- the hole region and the overflow region
abbrev pub cursors_of : MutatorRegions → Cursors
cursors_of r = record {
  hole = r.left (r.blocks 0);
  hole_block = unwrap_or (r.blocks 0) 0;
  over = r.left r.over;
  over_block = unwrap_or r.over 0;
}

-- Under a plan with lines an object of this size goes to the overflow region: it takes more than a
-- line, and the hole region has no room for it.
pub record GoesOver (fill : Kind) (r : MutatorRegions) (size : ℕ) : Type 0 where
  pub lines : FillsLines fill
  pub tried : TriesOverflow (cursors_of r) size

-- The region that takes an object of this size is in block k: the one for the size's class, or the
-- overflow region.
abbrev pub IsBlockFor : Kind → MutatorRegions → ℕ → ℕ → Type 0
IsBlockFor fill r size k = ((GoesOver fill r size → ⊥) × (r.blocks (class_for fill size) ≡ Some k))
    ⊎ (GoesOver fill r size × (r.over ≡ Some k))

-- A region that the mutator tries for objects of this size is in block k: the one for the size's
-- class, or under a plan with lines, for a size above a line, the overflow region.
abbrev pub TriesBlock : Kind → MutatorRegions → ℕ → ℕ → Type 0
TriesBlock fill r size k = (r.blocks (class_for fill size) ≡ Some k)
    ⊎ (FillsLines fill × (LINE_WORDS < size) × (r.over ≡ Some k))

-- Overflow allocation: an object of this size goes to the overflow region while the hole region has
-- some words left.
pub record Overflows (fill : Kind) (r : MutatorRegions) (size : ℕ) : Type 0 where
  pub over : GoesOver fill r size
  pub some : (cursors_of r).hole.next < (cursors_of r).hole.end

-- The region for objects of the class is the same, in the same block.
pub record KeepsClass (class : ℕ) (old new : MutatorRegions) : Type 0 where
  pub block : new.blocks class ≡ old.blocks class
  pub region : new.left (new.blocks class) ≡ old.left (old.blocks class)

-- The overflow region is the same, in the same block.
pub record KeepsOver (old new : MutatorRegions) : Type 0 where
  pub block : new.over ≡ old.over
  pub region : new.left new.over ≡ old.left old.over

-- The hole region is the same, in the same block.
abbrev pub KeepsHole : MutatorRegions → MutatorRegions → Type 0
KeepsHole = KeepsClass 0

-- All regions are the same, in the same blocks.
pub record KeepsRegions (old new : MutatorRegions) : Type 0 where
  pub classes : (class : ℕ) → KeepsClass class old new
  pub over : KeepsOver old new

-- All regions are the same but for the one that takes an object of this size: the overflow region
-- if the object goes there (`over`), else the region for the size's class.
pub record KeepsOthers (fill : Kind) (size : ℕ) (over : Type 0) (old new : MutatorRegions)
    : Type 0 where
  pub classes : (class : ℕ) → (class ≡ class_for fill size → over) → KeepsClass class old new
  pub over_stays : (over → ⊥) → KeepsOver old new

-- A block that the mutator owns under a plan with lines has no room for this size, as far as it
-- counts. Of the block of the hole region neither the region has room nor a hole that begins at the
-- region's end or later. The overflow region has none, if the size is above a line. No other block
-- counts: the line bits of owned blocks are not written before the end of the epoch.
pub record LacksLines (r : MutatorRegions) (s : HeapState) (size k : ℕ) : Type 0 where
  pub region : r.blocks 0 ≡ Some k → RegionHasRoom (r.left (Some k)) size → ⊥
  pub later : r.blocks 0 ≡ Some k → (next end : ℕ)
      → HasRoomFrom kinds.Immix s k (r.left (Some k)).end size next end → ⊥
  pub over : r.over ≡ Some k → LINE_WORDS < size → RegionHasRoom (r.left (Some k)) size → ⊥

-- Block k has no room for an object of this size that the mutator with the number may fill.
pub record LacksBlock (fill : Kind) (r : MutatorRegions) (s : HeapState) (number size k : ℕ)
    : Type 0 where
  pub unowned : owner_at s k ≡ 0 → (at : ℕ) → HasHole fill s k at size → ⊥
  pub own : (FillsLines fill → ⊥) → owner_at s k ≡ number → (at : ℕ) → HasHole fill s k at size → ⊥
  pub lines : FillsLines fill → LacksLines r s size k

-- No region that the mutator tries for this size has room: its block for the size's class has no
-- hole, or, under a plan with lines, neither the hole region has room nor, for a size above a line,
-- the overflow region.
pub record LacksRegions (fill : Kind) (r : MutatorRegions) (s : HeapState) (number size : ℕ)
    : Type 0 where
  pub own : (FillsLines fill → ⊥) → (k : ℕ) → r.blocks (class_for fill size) ≡ Some k
      → LacksBlock fill r s number size k
  pub lines : FillsLines fill → LacksRoom (cursors_of r) size

-- Where in a block of the mutator's room for the size begins under a plan with lines.
pub data BeginsInLines (fill : Kind) (r : MutatorRegions) (s : HeapState) (k offset size : ℕ)
    : Type 0 where
  -- at the start of the region that takes an object of the size
  at_region : IsBlockFor fill r size k → offset ≡ (r.left (Some k)).next
      → RegionHasRoom (r.left (Some k)) size → BeginsInLines fill r s k offset size
  -- if no region that is tried has room: in the block of the hole region, at the first hole with
  -- room from the region's end on
  at_later_hole : r.blocks 0 ≡ Some k → LacksRoom (cursors_of r) size → (end : ℕ)
      → IsFirstPart kinds.Immix s k (r.left (Some k)).end size (part offset end)
      → BeginsInLines fill r s k offset size

-- Under a plan with lines the words from this offset of block k on are the mutator's.
pub record OffersLines (fill : Kind) (r : MutatorRegions) (s : HeapState)
    (number k offset size : ℕ) : Type 0 where
  pub lines : FillsLines fill
  pub owner : owner_at s k ≡ number
  pub from : BeginsInLines fill r s k offset size

-- Room for the size begins at the offset of block k.
pub data OffersRoom (fill : Kind) (r : MutatorRegions) (s : HeapState)
    (number k offset size : ℕ) : Type 0 where
  -- the first hole with room, in a block that nobody owns
  unowned_hole : BeginsHole fill s k offset size → owner_at s k ≡ 0
      → OffersRoom fill r s number k offset size
  -- the first hole with room, in a block of the mutator's, under a plan without lines
  own_hole : BeginsHole fill s k offset size → (FillsLines fill → ⊥) → owner_at s k ≡ number
      → OffersRoom fill r s number k offset size
  -- the start of a Free block
  free_block : HasKind s k kinds.Free → offset ≡ 0 → OffersRoom fill r s number k offset size
  -- words of the mutator's under a plan with lines
  own_lines : OffersLines fill r s number k offset size → OffersRoom fill r s number k offset size

-- An object of this size may be placed in block k in another region than that for the size's class:
-- the mutator owned the block, or it was Free, in overflow allocation.
abbrev pub MayLeaveClass : Kind → MutatorRegions → HeapState → ℕ → ℕ → ℕ → Type 0
MayLeaveClass fill r s number size k = ((k < s.blocks) × (owner_at s k ≡ number))
    ⊎ (HasKind s k kinds.Free × Overflows fill r size)
