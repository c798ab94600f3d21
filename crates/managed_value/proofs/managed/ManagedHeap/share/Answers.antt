use Rattle.std.proofs.Common.{refl}
use Rattle.ideal_heap.specs.declared.command.Command.TheVariants as command
use Rattle.mutator_calls.specs.Effects.{enters}
use Rattle.managed_value.proofs.CallEntries as calls
use Rattle.managed_value.proofs.Places as places
use Rattle.managed_value.proofs.managed.ManagedHeap.share.Goals as goal

pub share-requires-clause-open : goal.share-requires-clause-open
share-requires-clause-open g c = places.open-here g.P.Plan.rules c.args.self.now c.in-Some.world c.in-Some.is c.requires.usable

pub share-requires-clause-place : goal.share-requires-clause-place
share-requires-clause-place g c = places.place-here g.P.Plan.rules c.args.self.now c.in-Some.world c.in-Some.is c.args.m c.requires.place

pub returns-in-Some : goal.returns-in-Some
returns-in-Some g c =
    let call = c.share.ensures in
    calls.call-entered g.P.Plan.rules c.args.self.now _ c.in-Some.world c.share.new.self c.in-Some.is refl refl refl c.args.m (command.Share c.args.g c.args.s) c.share.result
    (enters (command.Share c.args.g c.args.s) c.share.result) (places.place-here g.P.Plan.rules c.args.self.now c.in-Some.world c.in-Some.is c.args.m c.requires.place)
    c.requires.usable call.stays call.history call.rest refl refl refl

pub returns-in-None : goal.returns-in-None
returns-in-None g c = absurd (places.not-lost g.P.Plan.rules c.args.self.now c.requires.usable c.in-None.is)
