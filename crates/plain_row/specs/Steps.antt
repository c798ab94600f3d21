-- What the seat of a world of mutators in turns knows, and what its steps do.
use Rattle.std.specs.Prelude.{◌≡◌, ◌≢◌, ℕ, ◌+◌, ◌<◌, ◌⊎◌, true, false, Some, slice_get}
use Rattle.heap_layout.specs.declared.layout.TheConstants.{BUDGET_WORD, STOP_WORD}
use Rattle.heap_layout.specs.declared.block.Kind.TheVariants as kinds
use Rattle.ideal_heap.specs.declared.command.TheConstants.{REGISTERS}
use Rattle.ideal_heap.specs.declared.name.Name.{Name}
use Rattle.object_model.specs.Objects.{state_of, word_at, HasKind, owner_at, refs_at, nums_at, name_at, is_unlogged}
use Rattle.object_model.specs.Ages.{is_old}
use Rattle.object_model.specs.declared.shape.Shape.{Shape}
use Rattle.sessions.specs.Fitting.{HasCellFor, class_for}
use Rattle.plan_api.specs.Cursors.{PlacesInRegion}
use Rattle.mutator_calls.specs.Allocating.{Books}
use Rattle.heap_layout.specs.Zones.{block_start}
use Rattle.heap_layout.specs.declared.region.Region.{Region}
use Rattle.plain_row.specs.declared.plain_row.PlainRow.{PlainRow}
use Rattle.block_regions.specs.declared.block_notes.BlockNote.TheVariants.{Owned}
use Rattle.plain_row.specs.Rows.{mutator_at_turn, seat_at_turn, number_at_turn, births_of, address_at, regions_at_turn}
use Rattle.local_allocators.specs.Seats.{ticket_of, block_of}
use Rattle.local_allocators.specs.MutatorRegions.{FillsLines, cursors_of, GoesOver, IsBlockFor, TriesBlock, Overflows}
use Rattle.local_allocators.specs.MutatorRegions.{KeepsHole, KeepsRegions, KeepsOthers, LacksBlock, LacksRegions}
use Rattle.local_allocators.specs.MutatorRegions.{OffersRoom, MayLeaveClass}

-- the accounts of the mutator whose turn it is
abbrev pub books_of : PlainRow → Books
books_of w = record {
  blocks = w.row.layout.blocks;
  allowance = w.allowance;
  births = births_of (mutator_at_turn w);
  ticket = ticket_of (seat_at_turn w);
}

-- the object in register s has this shape
pub record HasShape (w : PlainRow) (s : ℕ) (shape : Shape) : Type 0 where
  pub some : address_at w s ≢ 0
  pub refs : shape.refs ≡ refs_at (state_of w.row) (address_at w s)
  pub nums : shape.nums ≡ nums_at (state_of w.row) (address_at w s)

-- the object at the address has this name
abbrev pub HasName : PlainRow → ℕ → Name → Type 0
HasName w a n = n ≡ name_at (state_of w.row) a

-- a reference may be stored into the object in register s: the plan is not generational, or the
-- object is not old, or it is logged
abbrev pub MayStoreUnlogged : PlainRow → ℕ → Type 0
MayStoreUnlogged w s = (w.young ≡ false) ⊎ (is_old (state_of w.row) (address_at w s) ≡ false)
    ⊎ (is_unlogged (state_of w.row) (address_at w s) ≡ false)

-- block k has no room for the size that the mutator may fill
abbrev pub Lacks : PlainRow → ℕ → ℕ → Type 0
Lacks w size k = LacksBlock w.fill (regions_at_turn w) (state_of w.row) (number_at_turn w) size k

-- no region that the mutator tries for the size has room
abbrev pub IsFull : PlainRow → ℕ → Type 0
IsFull w size = LacksRegions w.fill (regions_at_turn w) (state_of w.row) (number_at_turn w) size

-- an object of the size overflows the hole region
abbrev pub IsOverflow : PlainRow → ℕ → Type 0
IsOverflow w size = Overflows w.fill (regions_at_turn w) size

-- The mutator whose turn it is keeps its regions, and the plan its kind of blocks.
abbrev pub KeepsAll : PlainRow → PlainRow → Type 0
KeepsAll a b = (b.fill ≡ a.fill) × KeepsRegions (regions_at_turn a) (regions_at_turn b)

-- it keeps its hole region
abbrev pub KeepsRegion : PlainRow → PlainRow → Type 0
KeepsRegion a b = KeepsHole (regions_at_turn a) (regions_at_turn b)

-- The mutator whose turn it is keeps from `a` to `b` all regions but the one that takes an object
-- of this size in `in_w`.
abbrev pub KeepsRest : PlainRow → ℕ → PlainRow → PlainRow → Type 0
KeepsRest in_w size a b =
    KeepsOthers in_w.fill size (GoesOver in_w.fill (regions_at_turn in_w) size)
    (regions_at_turn a) (regions_at_turn b)

-- block k is not Free
abbrev pub IsUsed : PlainRow → ℕ → Type 0
IsUsed w k = HasKind (state_of w.row) k kinds.Free → ⊥

-- the budget word
abbrev pub HasBudget : PlainRow → ℕ → Type 0
HasBudget w n = word_at (state_of w.row) BUDGET_WORD ≡ n

-- the stop word
abbrev pub HasStop : PlainRow → ℕ → Type 0
HasStop w n = word_at (state_of w.row) STOP_WORD ≡ n

-- the plan is generational; register s, which is not nil, holds an old object; its unlog bit is set
abbrev pub HasAges : PlainRow → Type 0
HasAges w = w.young ≡ true

pub record IsAged (w : PlainRow) (s : ℕ) : Type 0 where
  pub register : s < REGISTERS
  pub some : address_at w s ≢ 0
  pub old : is_old (state_of w.row) (address_at w s) ≡ true

abbrev pub HasUnlogBit : PlainRow → ℕ → Type 0
HasUnlogBit w s = is_unlogged (state_of w.row) (address_at w s) ≡ true

-- the world `a` offers the words from this offset of block k on to an object of the size
abbrev pub IsOffer : PlainRow → ℕ → ℕ → ℕ → Type 0
IsOffer a k offset size =
    OffersRoom a.fill (regions_at_turn a) (state_of a.row) (number_at_turn a) k offset size

-- an object of the size may be placed in block k in another region than that for the size's class
abbrev pub LeavesClass : PlainRow → ℕ → ℕ → Type 0
LeavesClass w size k =
    MayLeaveClass w.fill (regions_at_turn w) (state_of w.row) (number_at_turn w) size k

-- the mutator whose turn it is tries a region in block k for objects of this size
abbrev pub AllocatesIn : PlainRow → ℕ → ℕ → Type 0
AllocatesIn w size k = TriesBlock w.fill (regions_at_turn w) size k

-- the mutator's region that takes an object of this size is in this block
pub record IsRegion (w : PlainRow) (size k : ℕ) (region : Region) : Type 0 where
  pub current : IsBlockFor w.fill (regions_at_turn w) size k
  pub note : slice_get w.notes.items k ≡ Some (Owned (number_at_turn w) region)

-- The mutator's region for objects of this size in `b` is room that `a` offers. Its other regions
-- are those of `a`. A block that it found is the one for the size's class, but a Free one in
-- overflow allocation.
pub record Offers (a b : PlainRow) (size : ℕ) : Type 0 where
  pub block : ℕ
  pub region : Region
  pub now : IsRegion b size block region
  pub offer : IsOffer a block region.next size
  pub class : LeavesClass a size block
      ⊎ (block_of (seat_at_turn b) (class_for b.fill size) ≡ Some block)
  pub others : KeepsRest b size a b

-- The object in register d of `c` was placed at the start of the region in `b`, in a block that the
-- mutator owns and allocates objects of this size in. In cells it has one of the class for the
-- size. Under lines it is in the one of two regions that takes it, which then begins after it. The
-- mutator's other regions stay.
pub record PlacesAtRegion (b c : PlainRow) (d size : ℕ) : Type 0 where
  pub fill : c.fill ≡ b.fill
  pub block : ℕ
  pub region : Region
  pub now : IsRegion b size block region
  pub address : address_at c d ≡ block_start (state_of c.row).blocks block + region.next
  pub owner : owner_at (state_of c.row) block ≡ number_at_turn c
  pub current : AllocatesIn c size block
  pub cell : HasCellFor c.fill (state_of c.row) block region.next size
  pub region_after : FillsLines c.fill → PlacesInRegion (cursors_of (regions_at_turn b))
      (cursors_of (regions_at_turn c)) size block region.next
  pub blocks : (class : ℕ) → block_of (seat_at_turn c) class ≡ block_of (seat_at_turn b) class
  pub others : KeepsRest b size b c
