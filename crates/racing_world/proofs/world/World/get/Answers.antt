use Rattle.std.proofs.Common.{◌≡◌, refl, subst, rules}
use Rattle.ideal_heap.specs.declared.command.Command.TheVariants as command
use Rattle.mutator_rule.specs.declared.seat.MutatorSeat.{MutatorSeat}
use Rattle.racing_world.specs.Calls.{EntersCommand}
use Rattle.racing_world.proofs.CallsSeen.{enters-command}
use Rattle.racing_world.proofs.world.World.get.Goals as goal

pub returns : goal.returns
returns g c =
    let does = c.get.ensures.goes in
    let name = does.makes.seat in
    let same : c.get.new.seat.seat.now ≡ c.seat-1.given.0 = search rules in
    subst (λ (seat : MutatorSeat). EntersCommand g.P.Plan.rules c.args.self.now c.args.seat.now (command.Get c.args.d c.args.s c.args.i) c.get.result seat) same
    (enters-command g.P.Plan.rules c.args.self.now _ _ refl c.get.ensures.ready c.requires.call.1 c.requires.call.2 c.requires.call.3 _ _ _ refl refl does)
