-- What the seats of an epoch know of the room in blocks, as it begins and as it ends.
use Rattle.std.specs.Prelude.{◌≡◌, ℕ, ◌+◌, ◌<◌, ◌≤◌, ◌⊎◌, List, Some, length, slice_get}
use Rattle.heap_layout.specs.declared.block.Kind.{Kind}
use Rattle.heap_layout.specs.declared.block.Kind.TheVariants as kinds
use Rattle.heap_layout.specs.declared.layout.TheConstants.{BLOCK_WORDS}
use Rattle.heap_layout.specs.declared.region.Region.{Region}
use Rattle.object_model.specs.Objects.{HeapState, owner_at}
use Rattle.sessions.specs.Fitting.{HasHole}
use Rattle.sessions.specs.Plans.{Rules}
use Rattle.block_regions.specs.declared.block_notes.BlockNote.{BlockNote}
use Rattle.block_regions.specs.declared.block_notes.BlockNote.TheVariants.{Unowned, Owned}
use Rattle.block_regions.specs.Notes.{IsLeastLeft}
use Rattle.mutator_core.specs.Machine.{Epoch}
use Rattle.mutator_rule.specs.declared.seat.MutatorSeat.{MutatorSeat}
use Rattle.mutator_rule.specs.Seats.{KeepsKnown}
use Rattle.racing_rooms.specs.Rooms.{heap_seen_by}
use Rattle.racing_world.specs.Closing.{IsSeatAt}

-- the seat's note of block k
abbrev pub HasNoteOf : MutatorSeat → ℕ → BlockNote → Type 0
HasNoteOf seat k note = slice_get seat.notes.blocks.items k ≡ Some note

-- The seat takes these notes of the blocks. All else that it has stays.
pub record TakesNotes (notes : List BlockNote) (old new : MutatorSeat) : Type 0 where
  pub known_stays : KeepsKnown old new
  pub rest : new.notes ≡ record old.notes { blocks = new.notes.blocks }
  pub blocks : new.notes.blocks.items ≡ notes

-- each of the seats does
pub record EachTakesNotes (notes : List BlockNote) (old new : List MutatorSeat) : Type 0 where
  pub len : length new ≡ length old
  pub each : (place : ℕ) (a b : MutatorSeat) → IsSeatAt old place a → IsSeatAt new place b
      → TakesNotes notes a b

-- one of the seats took block k, and this region is what it left of it
pub record TookBlock (seats : List MutatorSeat) (k : ℕ) (region : Region) : Type 0 where
  pub place : ℕ
  pub seat : MutatorSeat
  pub at : IsSeatAt seats place seat
  pub owner : ℕ
  pub note : HasNoteOf seat k (Owned owner region)

-- none of the seats took block k
abbrev pub NoneTook : List MutatorSeat → ℕ → Type 0
NoneTook seats k = (region : Region) → TookBlock seats k region → ⊥

-- The room in the blocks after an epoch with these seats. A block that none took has no hole that it
-- lacked before. Of tails or cells that a seat took there is no more than its region.
pub record LeavesRoom (rules : Rules) (p : Epoch) (seats : List MutatorSeat) (new : HeapState)
    : Type 0 where
  pub untaken : (k at size : ℕ) → k < p.before.blocks → NoneTook seats k
      → HasHole rules.fill new k at size → HasHole rules.fill p.before k at size
  pub left : (k : ℕ) (region : Region) → TookBlock seats k region → (rules.fill ≡ kinds.Immix → ⊥)
      → (at size : ℕ) → 0 < size → HasHole rules.fill new k at size → region.next + size ≤ region.end
  -- a block that a seat saw with an owner was taken by one of them
  pub owned : (k place : ℕ) (seat : MutatorSeat) → IsSeatAt seats place seat → k < p.before.blocks
      → 0 < owner_at (heap_seen_by rules seat) k → (region : Region) × TookBlock seats k region

-- What a block lacks as the epoch ends, where it was known before it to lack `least` words. If a seat
-- took it, that is what its region has left; else the least that it was noted to lack.
pub data IsLeastOf (fill : Kind) (seats : List MutatorSeat) (k known least : ℕ) : Type 0 where
  taken : (region : Region) → TookBlock seats k region → IsLeastLeft fill region least
      → IsLeastOf fill seats k known least
  untaken : NoneTook seats k → least ≤ known
      → ((place n : ℕ) (seat : MutatorSeat) → IsSeatAt seats place seat
      → HasNoteOf seat k (Unowned n) → least ≤ n)
      → (least ≡ known) ⊎ ((place : ℕ) × (seat : MutatorSeat) × IsSeatAt seats place seat
      × HasNoteOf seat k (Unowned least)) → IsLeastOf fill seats k known least

-- Each note says of its block what the note before said and what the seats noted.
pub record JoinsNotes (fill : Kind) (seats : List MutatorSeat) (old new : List BlockNote) : Type 0
  where
    pub len : length new ≡ length old
    pub each : (k known : ℕ) → slice_get old k ≡ Some (Unowned known)
        → (least : ℕ) × (slice_get new k ≡ Some (Unowned least)) × IsLeastOf fill seats k known least

-- The seat has a note of block k. If the block is its own, the region is one of a block.
pub record HasRegions (k : ℕ) (seat : MutatorSeat) : Type 0 where
  pub note : k < length seat.notes.blocks.items
  pub region : (owner : ℕ) (region : Region) → HasNoteOf seat k (Owned owner region)
      → (region.next ≤ region.end) × (region.end ≤ BLOCK_WORDS)
