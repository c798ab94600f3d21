use Rattle.std.proofs.Common.{◌≡◌, ◌≤◌, sum_by, take}
use Rattle.mutator_core.specs.Tickets.{tickets_in}
use Rattle.plain_world.proofs.closing.unused_tickets.Given as goal

abbrev pub invariant-loop-seat : goal.invariant-loop-seat
invariant-loop-seat l = (l.count ≡ sum_by (λ x. tickets_in x.ticket) (take l.seat-index l.seats)) × (l.count ≤ l.seat-index)
