use Rattle.std.proofs.Common.{◌≡◌, refl, ap, sym, ◌∙◌, subst, rules}
use Rattle.mutator_calls.specs.Stopping.{stop_of}
use Rattle.mutator_rule.specs.declared.seat.MutatorSeat.{MutatorSeat}
use Rattle.racing_world.specs.Calls.{EntersNothing, LoadsStop, has_raised, stop_seen}
use Rattle.mutator_rule.specs.Seats.{local_of}
use Rattle.racing_mutator.specs.RacingSeats.{holdings}
use Rattle.local_allocators.specs.NotedSeats.{regions_in}
use Rattle.mutator_rule.specs.declared.seat_notes.SeatNotes.{SeatNotes}
use Rattle.racing_rooms.specs.NoRoom.{regions_at}
use Rattle.racing_world.proofs.CallsSeen.{enters-nothing, stop-found, raised-known, raised-own}
use Rattle.racing_world.proofs.world.World.poll.Goals as goal

pub returns-clause-nothing : goal.returns-clause-nothing
returns-clause-nothing g c =
    let name = c.poll.ensures.looks.makes.seat in
    let same : c.poll.new.self.seat.now ≡ c.seat-1.given.0 = search rules in
    subst (λ (seat : MutatorSeat). EntersNothing g.P.Plan.rules c.args.self.now c.args.seat.now seat) same
    (enters-nothing g.P.Plan.rules c.args.self.now _ _ refl c.poll.ensures.ready c.requires.1 c.requires.2 c.requires.3 c.poll.ensures.looks.makes c.poll.ensures.looks.kept c.poll.ensures.looks.rooms)

pub returns-clause-kept : goal.returns-clause-kept
returns-clause-kept g c =
    let name = c.poll.ensures.looks.makes.seat in
    let same : c.poll.new.self.seat.now ≡ c.seat-1.given.0 = search rules in
    subst (λ (seat : MutatorSeat). has_raised seat ≡ has_raised c.args.seat.now) same c.poll.ensures.looks.raised

pub returns-clause-loads : goal.returns-clause-loads
returns-clause-loads g c =
    let name = c.poll.ensures.looks.makes.seat in
    let same : c.poll.new.self.seat.now ≡ c.seat-1.given.0 = search rules in
    subst (λ (seat : MutatorSeat). LoadsStop g.P.Plan.rules c.args.seat.now (stop_of c.poll.result) seat) same c.poll.ensures.step

pub returns-clause-stop : goal.returns-clause-stop
returns-clause-stop g c =
    let name = c.poll.ensures.looks.makes.seat in
    let same : c.poll.new.self.seat.now ≡ c.seat-1.given.0 = search rules in
    subst (λ (seat : MutatorSeat). stop_seen seat ≡ stop_of c.poll.result) same (stop-found g.P.Plan.rules _ _ _ c.poll.ensures.step)

pub returns-clause-mutator : goal.returns-clause-mutator
returns-clause-mutator g c m is = raised-known g.P.Plan.rules c.args.self.now c.poll.new.self (ap (λ r. r.now) c.poll.ensures.looks.makes.row) c.poll.ensures.ready m (stop-found g.P.Plan.rules _ _ _ c.poll.ensures.step ∙ ap stop_of is) (c.poll.ensures.raised m is)

pub returns-clause-caller : goal.returns-clause-caller
returns-clause-caller g c m is own = sym c.poll.ensures.looks.raised
    ∙ raised-own g.P.Plan.rules c.args.self.now c.poll.new.self (ap (λ r. r.now) c.poll.ensures.looks.makes.row) c.poll.ensures.ready m (stop-found g.P.Plan.rules _ _ _ c.poll.ensures.step ∙ ap stop_of is) (c.poll.ensures.raised m is) (own ∙ sym c.poll.ensures.looks.makes.goes.number)

pub returns-clause-holds : goal.returns-clause-holds
returns-clause-holds g c =
    let name = c.poll.ensures.looks.makes.seat in
    let same : c.poll.new.self.seat.now ≡ c.seat-1.given.0 = search rules in
    subst (λ (seat : MutatorSeat). holdings (local_of seat) ≡ holdings (local_of c.args.seat.now)) same c.poll.ensures.looks.kept

pub returns-clause-regions : goal.returns-clause-regions
returns-clause-regions g c =
    let name = c.poll.ensures.looks.makes.seat in
    let same : c.poll.new.self.seat.now ≡ c.seat-1.given.0 = search rules in
    subst (λ (seat : MutatorSeat). regions_at seat ≡ regions_at c.args.seat.now) same (ap (λ (n : SeatNotes). regions_in n.blocks.items n.local) c.poll.ensures.looks.rooms)
