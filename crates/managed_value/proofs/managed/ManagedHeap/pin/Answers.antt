use Rattle.std.proofs.Common.{refl}
use Rattle.ideal_heap.specs.declared.command.Command.TheVariants as command
use Rattle.mutator_calls.specs.Effects.{enters}
use Rattle.managed_value.proofs.CallEntries as calls
use Rattle.managed_value.proofs.Places as places
use Rattle.managed_value.proofs.managed.ManagedHeap.pin.Goals as goal

pub pin-requires-clause-open : goal.pin-requires-clause-open
pin-requires-clause-open g c = places.open-here g.P.Plan.rules c.args.self.now c.in-Some.world c.in-Some.is c.requires.usable

pub pin-requires-clause-place : goal.pin-requires-clause-place
pin-requires-clause-place g c = places.place-here g.P.Plan.rules c.args.self.now c.in-Some.world c.in-Some.is c.args.m c.requires.place

pub returns-in-Some : goal.returns-in-Some
returns-in-Some g c =
    let call = c.pin.ensures in
    calls.call-entered g.P.Plan.rules c.args.self.now _ c.in-Some.world c.pin.new.self c.in-Some.is refl refl refl c.args.m (command.Pin c.args.s) c.pin.result
    (enters (command.Pin c.args.s) c.pin.result) (places.place-here g.P.Plan.rules c.args.self.now c.in-Some.world c.in-Some.is c.args.m c.requires.place)
    c.requires.usable call.stays call.history call.rest refl refl refl

pub returns-in-None : goal.returns-in-None
returns-in-None g c = absurd (places.not-lost g.P.Plan.rules c.args.self.now c.requires.usable c.in-None.is)
