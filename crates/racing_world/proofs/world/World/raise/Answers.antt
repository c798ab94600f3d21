use Rattle.std.proofs.Common.{◌≡◌, true, refl, ap, ◌∙◌, subst, rules}
use Rattle.mutator_rule.specs.declared.seat.MutatorSeat.{MutatorSeat}
use Rattle.racing_world.specs.Calls.{EntersNothing, has_raised}
use Rattle.racing_mutator.proofs.Entered.{or-true}
use Rattle.mutator_rule.specs.Seats.{local_of}
use Rattle.racing_mutator.specs.RacingSeats.{holdings}
use Rattle.local_allocators.specs.NotedSeats.{regions_in}
use Rattle.mutator_rule.specs.declared.seat_notes.SeatNotes.{SeatNotes}
use Rattle.racing_rooms.specs.NoRoom.{regions_at}
use Rattle.racing_world.proofs.CallsSeen.{enters-nothing}
use Rattle.racing_world.proofs.world.World.raise.Goals as goal

pub returns-clause-nothing : goal.returns-clause-nothing
returns-clause-nothing g c =
    let name = c.raise.ensures.goes.makes.seat in
    let same : c.raise.new.seat.seat.now ≡ c.seat-1.given.0 = search rules in
    subst (λ (seat : MutatorSeat). EntersNothing g.P.Plan.rules c.args.self.now c.args.seat.now seat) same
    (enters-nothing g.P.Plan.rules c.args.self.now _ _ refl c.raise.ensures.ready c.requires.1 c.requires.2 c.requires.3 c.raise.ensures.goes.makes c.raise.ensures.goes.kept c.raise.ensures.goes.rooms)

pub returns-clause-raised : goal.returns-clause-raised
returns-clause-raised g c =
    let name = c.raise.ensures.goes.makes.seat in
    let same : c.raise.new.seat.seat.now ≡ c.seat-1.given.0 = search rules in
    subst (λ (seat : MutatorSeat). has_raised seat ≡ true) same (c.raise.ensures.goes.raised ∙ or-true _)

pub returns-clause-holds : goal.returns-clause-holds
returns-clause-holds g c =
    let name = c.raise.ensures.goes.makes.seat in
    let same : c.raise.new.seat.seat.now ≡ c.seat-1.given.0 = search rules in
    subst (λ (seat : MutatorSeat). holdings (local_of seat) ≡ holdings (local_of c.args.seat.now)) same c.raise.ensures.goes.kept

pub returns-clause-regions : goal.returns-clause-regions
returns-clause-regions g c =
    let name = c.raise.ensures.goes.makes.seat in
    let same : c.raise.new.seat.seat.now ≡ c.seat-1.given.0 = search rules in
    subst (λ (seat : MutatorSeat). regions_at seat ≡ regions_at c.args.seat.now) same (ap (λ (n : SeatNotes). regions_in n.blocks.items n.local) c.raise.ensures.goes.rooms)
