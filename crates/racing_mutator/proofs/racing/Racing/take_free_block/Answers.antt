use Rattle.std.proofs.Common.{◌≡◌, ◌<◌, ◌∙◌, sym, ap, subst, ℕ, rules}
use Rattle.std.specs.Prelude.{Some}
use Rattle.mutator_core.specs.Guards.{allowance}
use Rattle.mutator_rule.specs.declared.views.EpochStart.{EpochStart}
use Rattle.mutator_rule.specs.declared.seat_notes.SeatNotes.{SeatNotes}
use Rattle.mutator_rule.specs.Views.{epoch_with}
use Rattle.local_allocators.specs.MutatorRegions.{MutatorRegions, KeepsHole, Overflows}
use Rattle.racing_rooms.specs.NoRoom.{regions_at}
use Rattle.sessions.specs.Fitting.{class_for}
use Rattle.racing_mutator.specs.RacingSeats.{epoch_of_racing}
use Rattle.racing_mutator.proofs.Searched.{searches-both, uses-after}
use Rattle.racing_mutator.proofs.RoomTaken.{free-after}
use Rattle.racing_mutator.proofs.RegionsMoved.{finds-after}
use Rattle.racing_mutator.proofs.racing.Racing.take_free_block.Goals as goal

pub returns-clause-searches : goal.returns-clause-searches
returns-clause-searches g c = searches-both g.P.Plan.rules c.args.self.now c.hold_ticket-ticket.new.self c.take_some_free.new.self c.hold_ticket-ticket.ensures.takes.searches c.take_some_free.ensures.searches

pub returns-clause-uses : goal.returns-clause-uses
returns-clause-uses g c = uses-after g.P.Plan.rules c.args.self.now c.hold_ticket-ticket.new.self c.take_some_free.new.self c.take_some_free.result c.hold_ticket-ticket.ensures.takes c.take_some_free.ensures.uses

pub returns-clause-takes : goal.returns-clause-takes
returns-clause-takes g c = free-after g.P.Plan.rules c.args.self.now c.hold_ticket-ticket.new.self c.take_some_free.new.self c.take_some_free.result (class_for g.P.Plan.rules.fill c.args.size) c.hold_ticket-ticket.ensures.takes c.take_some_free.ensures.takes

pub returns-clause-good : goal.returns-clause-good
returns-clause-good g c t is =
    let same : Some c.hold_ticket-ticket.result ≡ Some t = sym c.hold_ticket-ticket.ensures.ticket ∙ c.hold_ticket-ticket.ensures.takes.ticket t is in
    let ticket : c.hold_ticket-ticket.result ≡ t = cc in
    let past : c.hold_ticket-ticket.result < c.notes.result.now.allowance = search rules in
    let allows : c.notes.result.now.allowance ≡ allowance (epoch_of_racing g.P.Plan.rules c.hold_ticket-ticket.new.self) = ap (λ (n : SeatNotes). n.allowance) c.notes.ensures ∙ c.hold_ticket-ticket.ensures.rooms.allows in
    subst (λ (s : EpochStart). t < allowance (epoch_with g.P.Plan.rules s)) c.hold_ticket-ticket.ensures.takes.searches.makes.goes.start (subst (λ (n : ℕ). n < allowance (epoch_of_racing g.P.Plan.rules c.hold_ticket-ticket.new.self)) ticket (subst (λ (n : ℕ). c.hold_ticket-ticket.result < n) allows past))

pub returns-clause-hole : goal.returns-clause-hole
returns-clause-hole g c over = subst (λ (r : MutatorRegions). KeepsHole r (regions_at c.take_some_free.new.self.seat.now)) c.hold_ticket-ticket.ensures.regions
    (c.take_some_free.ensures.hole (subst (λ (r : MutatorRegions). Overflows g.P.Plan.rules.fill r c.args.size) (sym c.hold_ticket-ticket.ensures.regions) over))

pub returns-clause-region : goal.returns-clause-region
returns-clause-region g c =
    let drawn = c.hold_ticket-ticket.ensures in
    finds-after g.P.Plan.rules c.args.self.now.seat.now c.hold_ticket-ticket.new.self.seat.now c.take_some_free.new.self.seat.now c.args.size c.take_some_free.result drawn.takes.searches.makes.goes.start drawn.regions drawn.takes.owned drawn.takes.granted c.take_some_free.ensures.region
