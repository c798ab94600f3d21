-- What a search for room leaves.
use Rattle.std.specs.Prelude.{◌≡◌, ℕ, ◌+◌, ◌<◌, ◌≤◌, ◌⊎◌, Bool, true, false, Option, Some, None, slice_get, slice_set}
use Rattle.std.specs.Prelude.{List, [], ◌∷◌}
use Rattle.heap_layout.specs.Zones.{block_at, block_start}
use Rattle.heap_layout.specs.declared.region.Region.{Region}
use Rattle.heap_layout.specs.declared.block.Kind.TheVariants as kinds
use Rattle.block_regions.specs.declared.block_notes.BlockNote.{BlockNote}
use Rattle.block_regions.specs.declared.block_notes.BlockNote.TheVariants.{Owned}
use Rattle.local_allocators.specs.declared.local_seat.LocalSeat.{LocalSeat}
use Rattle.local_allocators.specs.MutatorRegions.{Overflows, KeepsHole}
use Rattle.mutator_rule.specs.declared.seat_notes.SeatNotes.{SeatNotes}
use Rattle.ideal_heap.specs.declared.command.Command.TheVariants as c
use Rattle.ideal_heap.specs.declared.reply.Reply.TheVariants as r
use Rattle.ideal_heap.specs.declared.name.Name.{Name}
use Rattle.ideal_heap.specs.Runs.{entry}
use Rattle.object_model.specs.Objects.{size_of, HasKind}
use Rattle.object_model.specs.declared.shape.TheConstants.{MAX_MEDIUM_WORDS}
use Rattle.sessions.specs.Fitting.{class_for}
use Rattle.sessions.specs.Plans.{Rules}
use Rattle.mutator_calls.specs.declared.need.Need.{Need}
use Rattle.mutator_calls.specs.Allocating.{IsNeedOf}
use Rattle.mutator_core.specs.Guards.{IsPlaceOfMutator, BeginsRegion, allowance}
use Rattle.mutator_core.specs.Machine.{Epoch, address_in, next_name}
use Rattle.mutator_rule.specs.declared.seat.MutatorSeat.{MutatorSeat}
use Rattle.mutator_rule.specs.Seats.{local_of, epoch_of_seat, IsSeatOf}
use Rattle.racing_mutator.specs.declared.racing.Racing.{Racing}
use Rattle.racing_mutator.specs.Regions.{FillsRegion}
use Rattle.racing_mutator.specs.RacingSeats.{Makes, local, holdings, epoch_of_racing}
use Rattle.racing_rooms.specs.Rooms.{Holdings, HasRooms, IsOwnRegion}
use Rattle.racing_rooms.specs.NoRoom.{regions_at, LacksUnowned, LacksUnownedBelow, LacksFreeBelow, LacksTriedRegions}
use Rattle.racing_rooms.specs.NoRoom.{IsCauseFor}

-- what the mutator has for allocation after it took block k for objects of the class, or, if `over`,
-- for its overflow region
abbrev pub seat_after : Bool → LocalSeat → ℕ → ℕ → Option ℕ → LocalSeat
seat_after false x class k ticket =
    record { ticket = ticket; blocks = slice_set x.blocks class (Some k); over = x.over }
seat_after true x class k ticket = record { ticket = ticket; blocks = x.blocks; over = Some k }

-- The note of block k becomes this one, and the block the one that the mutator allocates objects of
-- the class in, or, if `over`, that of its overflow region. It has this ticket.
pub record NotesOwn (old new : SeatNotes) (over : Bool) (k class : ℕ) (note : BlockNote)
    (ticket : Option ℕ) : Type 0 where
  pub flags : new.flags ≡ old.flags
  pub allowance : new.allowance ≡ old.allowance
  pub blocks : new.blocks.items ≡ slice_set old.blocks.items k note
  pub local : new.local ≡ seat_after over old.local class k ticket

-- the region of block k, which the mutator took for the class, has room for the size
pub record HasRoomAt (p : Epoch) (h : Holdings) (notes : List BlockNote) (class k size : ℕ)
    : Type 0 where
  pub owner : ℕ
  pub region : Region
  pub note : slice_get notes k ≡ Some (Owned owner region)
  pub own : IsOwnRegion p h k class region
  pub room : region.next + size ≤ region.end

-- The mutator took no Free block for room of this size. A ticket that it had stays. None was drawn
-- but in overflow allocation, and then it is not below the allowance.
pub record KeepsTicket (rules : Rules) (old : MutatorSeat) (size : ℕ) (new : MutatorSeat) : Type 0
  where
    pub kept : (t : ℕ) → (local_of old).ticket ≡ Some t → (local_of new).ticket ≡ Some t
    pub drawn : ((local_of new).ticket ≡ (local_of old).ticket)
        ⊎ (Overflows rules.fill (regions_at old) size × ((t : ℕ)
        × ((local_of new).ticket ≡ Some t) × (allowance (epoch_of_seat rules old) ≤ t)))

-- It took block k, which was not Free and nobody's, where no region that it tries had room. No
-- lower block that nobody owns has a hole for the size.
pub record TakesUnowned (rules : Rules) (old : MutatorSeat) (size k : ℕ) (new : MutatorSeat)
    : Type 0 where
  pub owned : (local_of new).owned
      ≡ record { block = k; class = class_for rules.fill size } ∷ (local_of old).owned
  pub granted : (local_of new).granted ≡ (local_of old).granted
  pub used : HasKind (epoch_of_seat rules old).before k kinds.Free → ⊥
  pub ticket : KeepsTicket rules old size new
  pub full : LacksTriedRegions rules old size
  pub lowest : LacksUnownedBelow rules new k size

-- It took the Free block k, where no region that it tries had room, with its ticket or one that it
-- drew: either in overflow allocation, or no block that nobody owns has a hole for the size. No
-- lower block is Free.
pub record TakesFreeBlock (rules : Rules) (old : MutatorSeat) (size k : ℕ) (new : MutatorSeat)
    : Type 0 where
  pub owned : (local_of new).owned
      ≡ record { block = k; class = class_for rules.fill size } ∷ (local_of old).owned
  pub granted : (local_of new).granted ≡ k ∷ (local_of old).granted
  pub free : HasKind (epoch_of_seat rules old).before k kinds.Free
  pub ticket : (local_of new).ticket ≡ None
  pub good : (t : ℕ) → (local_of old).ticket ≡ Some t → t < allowance (epoch_of_seat rules old)
  pub full : LacksTriedRegions rules old size
  pub last : Overflows rules.fill (regions_at old) size ⊎ LacksUnowned rules new size
  pub lowest : LacksFreeBelow rules new k

-- What the mutator took for room of this size in block k.
pub data TakesRoom (rules : Rules) (old : MutatorSeat) (size k : ℕ) (new : MutatorSeat) : Type 0
  where
    -- nothing: a region or one of its own blocks had room
    takes_nothing : (local_of new).owned ≡ (local_of old).owned
        → (local_of new).granted ≡ (local_of old).granted → KeepsTicket rules old size new
        → TakesRoom rules old size k new
    takes_hole : TakesUnowned rules old size k new → TakesRoom rules old size k new
    takes_free : TakesFreeBlock rules old size k new → TakesRoom rules old size k new

-- the block of the object in register d
abbrev pub block_in : Rules → MutatorSeat → ℕ → ℕ
block_in rules seat d =
    block_at (epoch_of_seat rules seat).before.blocks (address_in (local_of seat) d)

-- It took no block, and drew no ticket.
pub record KeepsBlocks (old new : MutatorSeat) : Type 0 where
  pub owned : (local_of new).owned ≡ (local_of old).owned
  pub granted : (local_of new).granted ≡ (local_of old).granted
  pub ticket : (local_of new).ticket ≡ (local_of old).ticket

-- Overflow allocation left the hole region as it was, but where the mutator's ticket is not below
-- the allowance.
abbrev pub KeepsHoleRegion : Rules → MutatorSeat → ℕ → MutatorSeat → Type 0
KeepsHoleRegion rules old size new = Overflows rules.fill (regions_at old) size
    → KeepsHole (regions_at old) (regions_at new)
    ⊎ ((t : ℕ) × ((local_of new).ticket ≡ Some t) × (allowance (epoch_of_seat rules old) ≤ t))

-- The mutator's new object of this size is the one in register d. It lies in a block of the
-- mutator's, at the start of a hole or of a block that was Free, or directly after an object that
-- the mutator had allocated; in cells it has its own.
pub record PlacesObject (rules : Rules) (old : MutatorSeat) (d size : ℕ) (new : MutatorSeat)
    : Type 0 where
  pub made : (local_of new).made
      ≡ record { address = address_in (local_of new) d; size = size } ∷ (local_of old).made
  pub place : IsPlaceOfMutator (epoch_of_seat rules old) (local_of new).owned
      (address_in (local_of new) d) size
  pub front : BeginsRegion (epoch_of_seat rules old) (local_of old).made
      (address_in (local_of new) d) size

module _ {P : Type 0} where
  -- the mutator has such room
  abbrev pub HasFound : Rules → Racing P → ℕ → ℕ → ℕ → Type 0
  HasFound rules r class k size = HasRoomAt (epoch_of_racing rules r) (holdings (local r))
      r.seat.now.notes.blocks.items class k size

  -- The words of the mutator's unpublished object are stored, at the start of a region of block k.
  abbrev pub IsWrittenAt : Rules → Racing P → ℕ → Region → ℕ → ℕ → Type 0
  IsWrittenAt rules r k region refs nums = (local r).unpublished ≡ (record {
    address = block_start (epoch_of_racing rules r).before.blocks k + region.next;
    refs = refs;
    nums = nums;
    written = size_of refs nums;
  })

  -- The words of an object are stored where room was found, in block k. It is not published.
  pub record HasWritten (rules : Rules) (r : Racing P) (k refs nums : ℕ) : Type 0 where
    pub own : IsSeatOf rules r.row.now r.seat.now
    pub stored : (local r).pending ≡ 0
    pub rooms : HasRooms rules r.seat.now
    pub found : HasFound rules r (class_for rules.fill (size_of refs nums)) k (size_of refs nums)
    pub written : IsWrittenAt rules r k found.region refs nums

  -- From the one state to the other the mutator made steps that enter nothing and allocate no
  -- object.
  pub record Searches (rules : Rules) (a b : Racing P) : Type 0 where
    pub makes : Makes rules a [] b
    pub raised : (local b).raised ≡ (local a).raised
    pub births : (local b).births ≡ (local a).births
    pub made : (local b).made ≡ (local a).made

  -- The mutator searched and took no block.
  pub record TakesNothing (rules : Rules) (a b : Racing P) : Type 0 where
    pub searches : Searches rules a b
    pub owned : (local b).owned ≡ (local a).owned
    pub granted : (local b).granted ≡ (local a).granted
    -- an unused ticket stays
    pub ticket : (t : ℕ) → (local a).ticket ≡ Some t → (local b).ticket ≡ Some t

  -- It took this block, which was not Free, for objects of the class.
  pub record TakesHole (rules : Rules) (a b : Racing P) (block class : ℕ) : Type 0 where
    pub owned : (local b).owned ≡ record { block = block; class = class } ∷ (local a).owned
    pub granted : (local b).granted ≡ (local a).granted
    pub ticket : (local b).ticket ≡ (local a).ticket
    pub used : HasKind (epoch_of_racing rules a).before block kinds.Free → ⊥

  -- It took at most one block, for a hole with room for the size: this one. If it took that, no
  -- region that it tries had room, and no lower block that nobody owns has such a hole. Its ticket
  -- stays.
  pub record TakesOneHole (rules : Rules) (a b : Racing P) (block size : ℕ) : Type 0 where
    pub ticket : (local b).ticket ≡ (local a).ticket
    pub takes : TakesNothing rules a b ⊎ (TakesHole rules a b block (class_for rules.fill size)
        × LacksTriedRegions rules a.seat.now size
        × LacksUnownedBelow rules b.seat.now block size)

  -- It took this Free block for objects of the class, with its ticket.
  pub record TakesFree (rules : Rules) (a b : Racing P) (block class : ℕ) : Type 0 where
    pub owned : (local b).owned ≡ record { block = block; class = class } ∷ (local a).owned
    pub granted : (local b).granted ≡ block ∷ (local a).granted
    pub ticket : (local b).ticket ≡ None
    pub free : HasKind (epoch_of_racing rules a).before block kinds.Free

  -- an object of this name was allocated in register d
  pub record Allocates (rules : Rules) (a : Racing P) (d refs nums : ℕ) (n : Name) (b : Racing P)
      : Type 0 where
    pub makes : Makes rules a (entry (local a).number (c.New d refs nums) (r.New n) ∷ []) b
    pub name : n ≡ next_name (local a)
    pub births : (local b).births ≡ (local a).births + 1
    pub raised : (local b).raised ≡ (local a).raised
    pub small : size_of refs nums ≤ MAX_MEDIUM_WORDS
    pub place : PlacesObject rules a.seat.now d (size_of refs nums) b.seat.now
    pub takes : TakesRoom rules a.seat.now (size_of refs nums) (block_in rules b.seat.now d)
        b.seat.now
    pub region : FillsRegion rules a.seat.now (block_in rules b.seat.now d) d (size_of refs nums)
        b.seat.now
    pub overflow : KeepsHoleRegion rules a.seat.now (size_of refs nums) b.seat.now

  -- No object was allocated: the mutator is to stop with this need.
  pub record Needs (rules : Rules) (a : Racing P) (d refs nums : ℕ) (need : Need) (b : Racing P)
      : Type 0 where
    pub takes : TakesNothing rules a b
    pub regions : regions_at b.seat.now ≡ regions_at a.seat.now
    pub call : IsNeedOf d refs nums need
    pub cause : IsCauseFor rules b.seat.now (size_of refs nums) need.cause
