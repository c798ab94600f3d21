-- The shape of an object is that of its record.
use Rattle.std.proofs.Common.{◌≡◌, ◌+◌, sym, subst}
use Rattle.ideal_heap.specs.Ideal.{IdealHeap}
use Rattle.managed_value.specs.Histories.{shape_of_object}
use Rattle.managed_value.proofs.Places as places
use Rattle.managed_value.proofs.Registers as registers
use Rattle.managed_value.proofs.managed.ManagedHeap.shape.Goals as goal

pub shape-requires-clause-open : goal.shape-requires-clause-open
shape-requires-clause-open g c = places.open-here g.P.Plan.rules c.args.self.now c.in-Some.world c.in-Some.is c.requires.usable

pub shape-requires-clause-place : goal.shape-requires-clause-place
shape-requires-clause-place g c = places.place-here g.P.Plan.rules c.args.self.now c.in-Some.world c.in-Some.is c.args.m c.requires.place

pub returns-in-Some : goal.returns-in-Some
returns-in-Some g c = λ i stands.
    subst (λ (k : IdealHeap). c.shape.result ≡ shape_of_object k (k.registers (c.args.m + 1) c.args.s)) (sym stands.ideal)
    (registers.shape-read g.P.Plan.rules c.args.self.now c.in-Some.world stands.entries stands.has c.in-Some.is c.args.m
    (places.place-here g.P.Plan.rules c.args.self.now c.in-Some.world c.in-Some.is c.args.m c.requires.place) c.args.s c.requires.register c.shape.result
    c.shape.ensures.nil c.shape.ensures.held c.shape.ensures.refs c.shape.ensures.nums)

pub returns-in-None : goal.returns-in-None
returns-in-None g c = absurd (places.not-lost g.P.Plan.rules c.args.self.now c.requires.usable c.in-None.is)
