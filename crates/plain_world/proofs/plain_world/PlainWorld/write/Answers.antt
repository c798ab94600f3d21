use Rattle.ideal_heap.specs.declared.command.Command.TheVariants as command
use Rattle.mutator_calls.specs.Effects.{enters}
use Rattle.plain_world.proofs.CallLemmas.{has-effect}
use Rattle.plain_world.proofs.plain_world.PlainWorld.write.Goals as goal

pub returns : goal.returns
returns g c = has-effect g.P.Plan.rules c.args.self.now _ c.args.place (enters (command.Write c.args.s c.args.j c.args.n) c.write.result)
    c.requires.open c.requires.place c.write.ensures.ready c.write.ensures.goes
