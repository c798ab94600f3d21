-- What a `put` does to unlog bits.
use Rattle.std.specs.Prelude.{◌≡◌, ◌≢◌, ◌⊎◌, ℕ, true, false, List, [], ◌∷◌, ◌++◌, slice_index}
use mathlib.Core.List.{IsPrefix}
use Rattle.ideal_heap.specs.declared.reply.Reply.{Reply}
use Rattle.ideal_heap.specs.declared.reply.Reply.TheVariants as r
use Rattle.object_model.specs.Objects.{HeapState, is_unlogged}
use Rattle.object_model.specs.Ages.{is_old}
use Rattle.sessions.specs.Plans.{Rules}
use Rattle.sessions.specs.Collecting.{is_old_under}
use Rattle.mutator_core.specs.declared.state.LogEntry.{LogEntry}
use Rattle.mutator_core.specs.Logs.{heap_after}
use Rattle.mutator_rule.specs.declared.seat.MutatorSeat.{MutatorSeat}
use Rattle.mutator_rule.specs.Seats.{known, epoch_of_seat}
use Rattle.racing_rooms.specs.Rooms.{heap_seen_by}
use Rattle.racing_mutator.specs.RacingSeats.{logged_at}

-- the address in a register of the seat
abbrev pub address_at : MutatorSeat → ℕ → ℕ
address_at seat s = slice_index seat.registers s

-- the object is not old under the plan, or its unlog bit is clear
abbrev pub NeedsNoLog : Rules → HeapState → ℕ → Type 0
NeedsNoLog rules h a = (is_old_under rules h a ≡ false) ⊎ (is_unlogged h a ≡ false)

-- A `put` into the object of register s clears no unlog bit, or that of the object. It clears none
-- and stores only after the seat saw that the object needs no log. It clears the bit only of an old
-- object, where it was set.
abbrev pub LogsWhereNeeded : Rules → MutatorSeat → ℕ → Reply → MutatorSeat → Type 0
LogsWhereNeeded rules old s reply new =
    ((logged_at rules new ≡ logged_at rules old)
    × (reply ≡ r.Done → address_at old s ≢ 0 → (seen : List LogEntry)
    × IsPrefix (known old).seen seen
    × NeedsNoLog rules (heap_after (epoch_of_seat rules old) seen) (address_at old s)))
    ⊎ ((logged_at rules new ≡ logged_at rules old ++ address_at old s ∷ [])
    × (rules.young ≡ true)
    × (is_old (heap_seen_by rules old) (address_at old s) ≡ true)
    × (is_unlogged (heap_seen_by rules old) (address_at old s) ≡ true))
