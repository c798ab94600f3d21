use Rattle.ideal_heap.specs.declared.command.Command.TheVariants as command
use Rattle.mutator_calls.specs.Effects.{enters}
use Rattle.plain_world.proofs.CallLemmas.{has-effect}
use Rattle.plain_world.proofs.plain_world.PlainWorld.read.Goals as goal

pub returns : goal.returns
returns g c = has-effect g.P.Plan.rules c.args.self.now _ c.args.place (enters (command.Read c.args.s c.args.j) c.read.result)
    c.requires.open c.requires.place c.read.ensures.ready c.read.ensures.goes
