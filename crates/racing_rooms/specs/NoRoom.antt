-- What a mutator lacks for an object, in the heap that its seat has seen.
use Rattle.std.specs.Prelude.{◌≡◌, ℕ, ◌<◌, ◌≤◌, Some}
use Rattle.heap_layout.specs.declared.block.Kind.TheVariants as kinds
use Rattle.object_model.specs.Objects.{HasKind, owner_at}
use Rattle.object_model.specs.declared.shape.TheConstants.{MAX_MEDIUM_WORDS}
use Rattle.sessions.specs.Fitting.{HasHole}
use Rattle.sessions.specs.Plans.{Rules}
use Rattle.plan_api.specs.Cursors.{LacksRoom}
use Rattle.plan_api.specs.Holes.{HasRoomFrom}
use Rattle.local_allocators.specs.MutatorRegions.{MutatorRegions, FillsLines, LacksBlock, LacksRegions, cursors_of}
use Rattle.local_allocators.specs.NotedSeats.{regions_in}
use Rattle.mutator_calls.specs.declared.need.NeedCause.{NeedCause}
use Rattle.mutator_calls.specs.declared.need.NeedCause.TheVariants.{Large, Budget}
use Rattle.mutator_core.specs.Guards.{allowance}
use Rattle.mutator_rule.specs.declared.seat.MutatorSeat.{MutatorSeat}
use Rattle.mutator_rule.specs.Seats.{local_of, epoch_of_seat}
use Rattle.racing_rooms.specs.Rooms.{heap_seen_by}

-- the regions of the seat's mutator
abbrev pub regions_at : MutatorSeat → MutatorRegions
regions_at seat = regions_in seat.notes.blocks.items seat.notes.local

-- no block below `end` that nobody owns has a hole with room for the size
pub record LacksUnownedBelow (rules : Rules) (seat : MutatorSeat) (end size : ℕ) : Type 0 where
  pub each : (k : ℕ) → k < end → owner_at (heap_seen_by rules seat) k ≡ 0
      → (at : ℕ) → HasHole rules.fill (heap_seen_by rules seat) k at size → ⊥

-- no block that nobody owns has one
abbrev pub LacksUnowned : Rules → MutatorSeat → ℕ → Type 0
LacksUnowned rules seat size =
    LacksUnownedBelow rules seat (epoch_of_seat rules seat).before.blocks size

-- no block below `end` is Free
abbrev pub LacksFreeBelow : Rules → MutatorSeat → ℕ → Type 0
LacksFreeBelow rules seat end = (k : ℕ) → k < end
    → HasKind (heap_seen_by rules seat) k kinds.Free → ⊥

-- No block of the mutator's own has a hole with room for the size that it may fill. Under a plan
-- with lines that is a hole of the block of the hole region, from the region's end on.
pub record LacksOwn (rules : Rules) (seat : MutatorSeat) (size : ℕ) : Type 0 where
  pub blocks : (FillsLines rules.fill → ⊥) → (k : ℕ)
      → k < (epoch_of_seat rules seat).before.blocks
      → owner_at (heap_seen_by rules seat) k ≡ (local_of seat).number
      → (at : ℕ) → HasHole rules.fill (heap_seen_by rules seat) k at size → ⊥
  pub later : FillsLines rules.fill → (k next end : ℕ) → (regions_at seat).blocks 0 ≡ Some k
      → HasRoomFrom kinds.Immix (heap_seen_by rules seat) k ((regions_at seat).left (Some k)).end
      size next end → ⊥

-- under a plan with lines: no region that the mutator tries for an object of the size has room
abbrev pub LacksRegionRoom : Rules → MutatorSeat → ℕ → Type 0
LacksRegionRoom rules seat size =
    FillsLines rules.fill → LacksRoom (cursors_of (regions_at seat)) size

-- No region that the mutator tries for an object of the size has room.
abbrev pub LacksTriedRegions : Rules → MutatorSeat → ℕ → Type 0
LacksTriedRegions rules seat size =
    LacksRegions rules.fill (regions_at seat) (heap_seen_by rules seat) (local_of seat).number size

-- Nor has a block any that the mutator may fill.
pub record HasNoRoom (rules : Rules) (seat : MutatorSeat) (size : ℕ) : Type 0 where
  pub regions : LacksTriedRegions rules seat size
  pub blocks : (k : ℕ) → k < (epoch_of_seat rules seat).before.blocks
      → LacksBlock rules.fill (regions_at seat) (heap_seen_by rules seat) (local_of seat).number
      size k

-- Why an allocation of this size stops: the object is large; or there is no room for it, and the
-- mutator's ticket is not below the allowance.
abbrev pub IsCauseFor : Rules → MutatorSeat → ℕ → NeedCause → Type 0
IsCauseFor rules seat size Large = MAX_MEDIUM_WORDS < size
IsCauseFor rules seat size (Budget t) = (size ≤ MAX_MEDIUM_WORDS)
    × ((local_of seat).ticket ≡ Some t) × (allowance (epoch_of_seat rules seat) ≤ t)
    × HasNoRoom rules seat size
