-- The parts of a world of mutators in turns.
use Rattle.std.specs.Prelude.{◌≡◌, ℕ, ◌<◌, Option, Some, None, List, [], length, slice_get, slice_index, slice_set}
use Rattle.mutator_calls.specs.declared.need.Mutator.{Mutator}
use Rattle.block_regions.specs.Elements.{ChangesAt}
use Rattle.plain_row.specs.declared.plain_row.PlainRow.{PlainRow}
use Rattle.local_allocators.specs.declared.local_seat.LocalSeat.{LocalSeat}
use Rattle.local_allocators.specs.MutatorRegions.{MutatorRegions}
use Rattle.local_allocators.specs.NotedRegions.{regions_of}
use Rattle.local_allocators.specs.Placing.{LocalView}
use Rattle.object_model.specs.Objects.{state_of}

abbrev pub mutator_number : Option Mutator → ℕ
mutator_number None = 0
mutator_number (Some m) = m.number

abbrev pub births_of : Option Mutator → ℕ
births_of None = 0
births_of (Some m) = m.births

abbrev pub registers_of : Option Mutator → List ℕ
registers_of None = []
registers_of (Some m) = m.registers

-- it is the turn of one of the mutators, and each mutator has a seat
pub record IsTurn (w : PlainRow) : Type 0 where
  pub turn : w.turn < length w.mutators.items
  pub seats : length w.seats.items ≡ length w.mutators.items

-- the mutator whose turn it is, and its seat
abbrev pub mutator_at_turn : PlainRow → Option Mutator
mutator_at_turn w = slice_get w.mutators.items w.turn

abbrev pub seat_at_turn : PlainRow → Option LocalSeat
seat_at_turn w = slice_get w.seats.items w.turn

-- its regions
abbrev pub regions_at_turn : PlainRow → MutatorRegions
regions_at_turn w = regions_of w.notes.items (seat_at_turn w)

-- its number
abbrev pub number_at_turn : PlainRow → ℕ
number_at_turn w = mutator_number (mutator_at_turn w)

-- the address in a register of that mutator
abbrev pub address_at : PlainRow → ℕ → ℕ
address_at w s = slice_index (registers_of (mutator_at_turn w)) s

-- register d of the mutator becomes the address; all else stays
pub record SetsRegister (old new : PlainRow) (d address : ℕ) : Type 0 where
  pub row : new.row ≡ old.row
  pub seats : new.seats ≡ old.seats
  pub turn : new.turn ≡ old.turn
  pub notes : new.notes ≡ old.notes
  pub owned : new.owned ≡ old.owned
  pub counts : new.counts ≡ old.counts
  pub flags : new.flags ≡ old.flags
  pub fill : new.fill ≡ old.fill
  pub young : new.young ≡ old.young
  pub allowance : new.allowance ≡ old.allowance
  pub mutator : Mutator
  pub was : mutator_at_turn old ≡ Some mutator
  pub mutators : ChangesAt old.mutators.items new.mutators.items old.turn
      (record mutator { registers = slice_set mutator.registers d address })

-- what the row is to the allocation of the mutator at a place of the list
abbrev pub view_of : PlainRow → ℕ → LocalView
view_of w m = record {
  fill = w.fill;
  heap = state_of w.row;
  number = mutator_number (slice_get w.mutators.items m);
  regions = regions_of w.notes.items (slice_get w.seats.items m);
}
