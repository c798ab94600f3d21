use Rattle.std.proofs.Common.{◌≡◌, ◌≤◌, sum_by, take}
use Rattle.mutator_core.specs.Tickets.{tickets_below}
use Rattle.mutator_rule.specs.declared.seat.MutatorSeat.{MutatorSeat}
use Rattle.racing_world.proofs.closing_notes.unused_tickets.Given as goal

abbrev pub invariant-loop-place : goal.invariant-loop-place
invariant-loop-place l = (l.count ≡ sum_by (λ (seat : MutatorSeat). tickets_below l.allowance seat.notes.local.ticket) (take l.place l.seats.items)) × (l.count ≤ l.place)
