use Rattle.mutator_calls.specs.Effects.{raises}
use Rattle.plain_world.proofs.CallLemmas.{has-effect}
use Rattle.plain_world.proofs.plain_world.PlainWorld.raise.Goals as goal

pub returns : goal.returns
returns g c = has-effect g.P.Plan.rules c.args.self.now _ c.args.place raises c.requires.open c.requires.place c.raise.ensures.ready c.raise.ensures.goes
