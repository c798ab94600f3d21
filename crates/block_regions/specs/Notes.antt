-- The notes on blocks, and their flags, against the heap.
use Rattle.heap_layout.specs.declared.block_codes.TheConstants.{OWNER_UNIT}
use Rattle.heap_layout.specs.declared.layout.TheConstants.{BLOCK_WORDS, BLOCK_LINES}
use Rattle.std.specs.Prelude.{◌≡◌, ℕ, ◌+◌, ◌-◌, ◌%◌, ◌<◌, ◌≤◌, ◌⊎◌, Bool, true, IsTrue, List, [], length, nat_eq, Some}
use Rattle.std.specs.Prelude.{slice_get, slice_set, vec_capacity}
use Rattle.std.specs.List.{Contains, IsDistinct}
use Rattle.heap_layout.specs.declared.block.Kind.{Kind}
use Rattle.heap_layout.specs.declared.block.Kind.TheVariants as kinds
use Rattle.heap_layout.specs.declared.region.Region.{Region}
use Rattle.heap_layout.specs.Zones.{first, BlockWords, block_at, offset_at}
use Rattle.object_model.specs.Objects.{HeapState, with_words, block_word, has_kind, HasKind, owner_at, line_marked}
use Rattle.object_model.specs.Objects.{size_of, blocks_for}
use Rattle.plan_api.specs.Counting.{session_counts}
use Rattle.plan_api.specs.Relisting.{Relists}
use Rattle.sessions.specs.Fitting.{HasHole, counts_of}
use Rattle.sessions.specs.Plans.{Rules, has_holes}
use Rattle.sessions.specs.Collecting.{is_logged_under}
use Rattle.sessions.specs.Sessions.{AddsObject, UsesBlock, UsesRun}
use Rattle.block_regions.specs.declared.block_notes.BlockNotes.{BlockNotes}
use Rattle.block_regions.specs.declared.block_notes.BlockNote.{BlockNote}
use Rattle.block_regions.specs.declared.block_notes.BlockNote.TheVariants.{Unowned, Owned}
use Rattle.block_regions.specs.Elements.{ChangesAt}
use Rattle.block_regions.specs.Regions.{IsRegionIn}

-- mutators fill the tails of blocks of this kind
abbrev pub FillsTails : Kind → Type 0
FillsTails fill = (fill ≡ kinds.Bump) ⊎ (fill ≡ kinds.Young)

-- mutators fill tails of blocks, or cells
abbrev pub FillsTailsOrCells : Kind → Type 0
FillsTailsOrCells fill = FillsTails fill ⊎ (fill ≡ kinds.Cells)

-- blocks of the kind that mutators fill have holes
abbrev pub FillsHoles : Kind → Type 0
FillsHoles fill = IsTrue (has_holes fill)

-- block k has no owner, and no hole for an object of `least` words or more
pub record IsUnownedNote (fill : Kind) (s : HeapState) (k least : ℕ) : Type 0 where
  pub owner : owner_at s k ≡ 0
  pub none : (at size : ℕ) → least ≤ size → HasHole fill s k at size → ⊥

-- mutator `owner` owns block k, which has the kind that mutators fill, and the region is what is
-- left of it
pub record IsOwnedNote (fill : Kind) (s : HeapState) (k number : ℕ) (region : Region) : Type 0 where
  pub some : 0 < number
  pub owner : owner_at s k ≡ number
  pub kind : HasKind s k fill
  pub left : IsRegionIn fill s k region

-- the note is right for block k
abbrev pub IsBlockNote : Kind → HeapState → ℕ → BlockNote → Type 0
IsBlockNote fill s k (Unowned least) = IsUnownedNote fill s k least
IsBlockNote fill s k (Owned owner region) = IsOwnedNote fill s k owner region

-- there is a note for each block, and it is right
pub record HasNotes (fill : Kind) (s : HeapState) (notes : List BlockNote) : Type 0 where
  pub len : length notes ≡ s.blocks
  pub each : (k : ℕ) (note : BlockNote) → slice_get notes k ≡ Some note → IsBlockNote fill s k note

-- a block that the mutator allocates in is its own
pub record IsRegionOf (notes : List BlockNote) (number block : ℕ) : Type 0 where
  pub region : Region
  pub note : slice_get notes block ≡ Some (Owned number region)

-- each block that a mutator owns has an object
abbrev pub AreFilled : List BlockNote → Type 0
AreFilled notes = (k owner : ℕ) (region : Region) → slice_get notes k ≡ Some (Owned owner region)
    → 0 < region.next

-- a region of the mutator is in this block, and has room for the size; each other block that a
-- mutator owns has an object
pub record IsRoomIn (notes : List BlockNote) (number size block : ℕ) : Type 0 where
  pub region : Region
  pub note : slice_get notes block ≡ Some (Owned number region)
  pub room : region.next + size ≤ region.end
  pub others : (k owner : ℕ) (r : Region) → slice_get notes k ≡ Some (Owned owner r)
      → (k ≡ block) ⊎ (0 < r.next)

-- nobody owns a block
abbrev pub AreUnowned : List BlockNote → Type 0
AreUnowned notes = (k owner : ℕ) (region : Region)
    → slice_get notes k ≡ Some (Owned owner region) → ⊥

-- the list has the blocks that mutators own, each once
pub record ListsOwned (notes : List BlockNote) (owned : List ℕ) : Type 0 where
  pub differ : IsDistinct nat_eq owned
  pub listed : (k owner : ℕ) (region : Region) → slice_get notes k ≡ Some (Owned owner region)
      → Contains owned k
  pub right : (k : ℕ) → Contains owned k → (owner : ℕ) × (region : Region)
      × (slice_get notes k ≡ Some (Owned owner region))

-- What is noted of a block with this region as it is given back: its hole is what the region has
-- left. Under lines nothing is known of it, as its line bits are written anew.
pub record IsLeastLeft (fill : Kind) (region : Region) (least : ℕ) : Type 0 where
  pub left : (fill ≡ kinds.Immix → ⊥) → least ≡ region.end - region.next + 1
  pub lines : fill ≡ kinds.Immix → least ≡ BLOCK_WORDS + 1

-- the heap with block k without its owner
abbrev pub without_owner : HeapState → ℕ → HeapState
without_owner s k =
    with_words s (slice_set s.words (first s.blocks BlockWords + k) (block_word s k % OWNER_UNIT))

-- A block that a mutator owns is given back: it keeps its kind and class, and is relisted then.
pub data GivesBackBlock (rules : Rules) (old new : HeapState) (notes later : List BlockNote)
    (block : ℕ) : Type 0 where
  nobody : (least : ℕ) → slice_get notes block ≡ Some (Unowned least) → new ≡ old → later ≡ notes
      → GivesBackBlock rules old new notes later block
  given : (owner least : ℕ) (region : Region) → slice_get notes block ≡ Some (Owned owner region)
      → Relists rules (without_owner old block) new block
      → (new.number ≡ old.number) × (new.base ≡ old.base)
      → IsLeastLeft rules.fill region least → ChangesAt notes later block (Unowned least)
      → GivesBackBlock rules old new notes later block

-- The notes are right for a heap between two epochs, whose mutators fill blocks of this kind:
-- nobody owns a block.
pub record AreNotes (fill : Kind) (s : HeapState) (n : BlockNotes) : Type 0 where
  pub counts : session_counts n.counts ≡ counts_of s
  pub notes : HasNotes fill s n.notes.items
  pub unowned : AreUnowned n.notes.items
  pub owned : n.owned.items ≡ []
  pub room : s.blocks ≤ vec_capacity n.owned

-- There is a flag for each block, and each object that is logged under the rules begins in a block
-- whose flag is set. Other flags may be set too.
pub record FlagsCover (rules : Rules) (s : HeapState) (flags : List Bool) : Type 0 where
  pub len : length flags ≡ s.blocks
  pub each : (a : ℕ) → IsTrue (is_logged_under rules s a)
      → slice_get flags (block_at s.blocks a) ≡ Some true

-- under the rules no object is logged
abbrev pub NoneIsLogged : Rules → HeapState → Type 0
NoneIsLogged rules s = (a : ℕ) → IsTrue (is_logged_under rules s a) → ⊥

-- block k has no hole with room for the size
abbrev pub LacksHoles : Kind → HeapState → ℕ → ℕ → Type 0
LacksHoles fill s k size = (at : ℕ) → HasHole fill s k at size → ⊥

-- the hole at this offset of block k has room for the size; each other such hole is in a later
-- block, or later in this one
pub record IsLowestHole (fill : Kind) (s : HeapState) (k at size : ℕ) : Type 0 where
  pub hole : HasHole fill s k at size
  pub lowest : (j from : ℕ) → HasHole fill s j from size → (k < j) ⊎ ((k ≡ j) × (at ≤ from))

-- No line bit of a block was cleared.
abbrev pub KeepsLines : HeapState → HeapState → Type 0
KeepsLines old new = (k line : ℕ) → k < old.blocks → line < BLOCK_LINES
    → IsTrue (line_marked old k line)
    → IsTrue (line_marked new k line)

-- From `old` to `new` an object was placed at the address, in a block that was Free or in a hole of
-- its block. The line bits of the block may have been written anew.
pub record PlacesInBlock (rules : Rules) (old new : HeapState) (a refs nums block : ℕ)
    (was_free : Bool) : Type 0 where
  pub layout : (new.blocks ≡ old.blocks) × (new.number ≡ old.number) × (new.base ≡ old.base)
  pub object : AddsObject old new a refs nums
  pub here : block_at old.blocks a ≡ block
  pub uses : UsesBlock rules old new block (size_of refs nums)
  pub free : was_free ≡ has_kind old block kinds.Free
  pub spot : HasKind old block kinds.Free
      ⊎ HasHole rules.fill old block (offset_at old.blocks a) (size_of refs nums)
  pub lines : KeepsLines old new

-- From `old` to `new` a large object was placed at the address, in the run of blocks that begins
-- with this one.
pub record PlacesRun (old new : HeapState) (a refs nums block : ℕ) : Type 0 where
  pub blocks : new.blocks ≡ old.blocks
  pub object : AddsObject old new a refs nums
  pub here : block_at old.blocks a ≡ block
  pub uses : UsesRun old new block (blocks_for (size_of refs nums))
  pub lines : KeepsLines old new
