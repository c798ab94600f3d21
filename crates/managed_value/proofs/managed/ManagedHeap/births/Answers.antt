use Rattle.std.proofs.Common.{◌∙◌}
use Rattle.managed_value.proofs.Places as places
use Rattle.managed_value.proofs.managed.ManagedHeap.births.Goals as goal

pub births-requires : goal.births-requires
births-requires g c = places.place-here g.P.Plan.rules c.args.self.now c.in-Some.world c.in-Some.is c.args.m c.requires.place

pub returns-in-Some : goal.returns-in-Some
returns-in-Some g c = c.births.ensures ∙ places.births-of-world g.P.Plan.rules c.args.self.now c.in-Some.world c.in-Some.is c.args.m

pub returns-in-None : goal.returns-in-None
returns-in-None g c = absurd (places.not-lost g.P.Plan.rules c.args.self.now c.requires.usable c.in-None.is)
