-- What a contract says of a seat.
use Rattle.std.specs.Prelude.{◌≡◌, ℕ, List, All}
use Rattle.sessions.specs.Plans.{Rules}
use Rattle.mutator_core.specs.declared.state.Local.{Local}
use Rattle.mutator_core.specs.Machine.{Epoch}
use Rattle.mutator_rule.specs.declared.racing_row.RacingRow.{RacingRow}
use Rattle.mutator_rule.specs.declared.seat.MutatorSeat.{MutatorSeat}
use Rattle.mutator_rule.specs.declared.views.EpochStart.{EpochStart}
use Rattle.mutator_rule.specs.declared.views.MutatorView.{MutatorView}
use Rattle.mutator_rule.specs.FirstNotes.{AreFirstNotes}
use Rattle.mutator_rule.specs.Views.{first_of, start_in, epoch_with}
use Rattle.mutator_rule.specs.Logs.{KnowsLog}

-- what the mutator of the seat knows, its state, and its epoch
abbrev pub known : MutatorSeat → MutatorView
known seat = first_of seat.seat.me.0

abbrev pub local_of : MutatorSeat → Local
local_of seat = (known seat).local

abbrev pub epoch_of_seat : Rules → MutatorSeat → Epoch
epoch_of_seat rules seat = epoch_with rules (known seat).start

-- how the epoch of the row began
abbrev pub start_of : {P : Type 0} → RacingRow P → EpochStart
start_of row = start_in row.row.words.key

-- the seat is at this row
abbrev pub IsAtRow : {P : Type 0} → RacingRow P → MutatorSeat → Type 0
IsAtRow row seat = seat.seat.table_id ≡ row.row.words.table_id

-- the seat is at this row, in the epoch that began with it, and has seen a log of it
abbrev pub IsSeatOf : {P : Type 0} → Rules → RacingRow P → MutatorSeat → Type 0
IsSeatOf rules row seat = IsAtRow row seat × ((known seat).start ≡ start_of row)
    × KnowsLog (epoch_of_seat rules seat) (known seat)

abbrev pub AreSeatsOf : {P : Type 0} → Rules → RacingRow P → List MutatorSeat → Type 0
AreSeatsOf rules row seats = All (IsSeatOf rules row) seats

abbrev pub AreAtRow : {P : Type 0} → RacingRow P → List MutatorSeat → Type 0
AreAtRow row seats = All (IsAtRow row) seats

-- the mutator's notes are those of the epoch's beginning
abbrev pub HasFirstNotes : {P : Type 0} → RacingRow P → ℕ → MutatorSeat → Type 0
HasFirstNotes row allowance seat = AreFirstNotes row.layout.blocks allowance seat.notes

-- From the one state to the other the mutator changed at most its notes.
pub record KeepsKnown (old new : MutatorSeat) : Type 0 where
  pub known_stays : known new ≡ known old
  pub table : new.seat.table_id ≡ old.seat.table_id
  pub registers : new.registers ≡ old.registers
