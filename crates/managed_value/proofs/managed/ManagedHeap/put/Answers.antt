use Rattle.std.proofs.Common.{refl}
use Rattle.ideal_heap.specs.declared.command.Command.TheVariants as command
use Rattle.mutator_calls.specs.Effects.{logs}
use Rattle.managed_value.proofs.CallEntries as calls
use Rattle.managed_value.proofs.Places as places
use Rattle.managed_value.proofs.managed.ManagedHeap.put.Goals as goal

pub put-requires-clause-open : goal.put-requires-clause-open
put-requires-clause-open g c = places.open-here g.P.Plan.rules c.args.self.now c.in-Some.world c.in-Some.is c.requires.usable

pub put-requires-clause-place : goal.put-requires-clause-place
put-requires-clause-place g c = places.place-here g.P.Plan.rules c.args.self.now c.in-Some.world c.in-Some.is c.args.m c.requires.place

pub returns-in-Some : goal.returns-in-Some
returns-in-Some g c =
    let call = c.put.ensures.call in
    calls.call-entered g.P.Plan.rules c.args.self.now _ c.in-Some.world c.put.new.self c.in-Some.is refl refl refl c.args.m (command.Put c.args.s c.args.i c.args.v) c.put.result
    (logs c.put.ensures.logged (command.Put c.args.s c.args.i c.args.v) c.put.result) (places.place-here g.P.Plan.rules c.args.self.now c.in-Some.world c.in-Some.is c.args.m c.requires.place)
    c.requires.usable call.stays call.history call.rest refl refl refl

pub returns-in-None : goal.returns-in-None
returns-in-None g c = absurd (places.not-lost g.P.Plan.rules c.args.self.now c.requires.usable c.in-None.is)
