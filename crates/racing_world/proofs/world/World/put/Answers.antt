use Rattle.std.proofs.Common.{◌≡◌, refl, subst, rules}
use Rattle.ideal_heap.specs.declared.command.Command.TheVariants as command
use Rattle.mutator_rule.specs.declared.seat.MutatorSeat.{MutatorSeat}
use Rattle.racing_mutator.specs.Barriers.{LogsWhereNeeded}
use Rattle.racing_world.specs.Calls.{EntersCommand}
use Rattle.racing_mutator.proofs.Barrier.{put-logs}
use Rattle.racing_world.proofs.CallsSeen.{enters-command}
use Rattle.racing_world.proofs.world.World.put.Goals as goal

pub returns-clause-enters : goal.returns-clause-enters
returns-clause-enters g c =
    let does = c.put.ensures.goes.1 in
    let name = does.makes.seat in
    let same : c.put.new.seat.seat.now ≡ c.seat-1.given.0 = search rules in
    subst (λ (seat : MutatorSeat). EntersCommand g.P.Plan.rules c.args.self.now c.args.seat.now (command.Put c.args.s c.args.i c.args.v) c.put.result seat) same
    (enters-command g.P.Plan.rules c.args.self.now _ _ refl c.put.ensures.ready c.requires.call.1 c.requires.call.2 c.requires.call.3 _ _ _ refl refl does)

pub returns-clause-logs : goal.returns-clause-logs
returns-clause-logs g c =
    let does = c.put.ensures.goes.1 in
    let name = does.makes.seat in
    let same : c.put.new.seat.seat.now ≡ c.seat-1.given.0 = search rules in
    subst (λ (seat : MutatorSeat). LogsWhereNeeded g.P.Plan.rules c.args.seat.now c.args.s c.put.result seat) same
    (put-logs g.P.Plan.rules _ _ c.args.s c.put.result c.put.ensures.goes.0 _ does c.requires.call.0.own.2 c.put.ensures.goes.2)
