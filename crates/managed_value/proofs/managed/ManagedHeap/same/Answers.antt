-- One address is one object.
use Rattle.std.proofs.Common.{◌≡◌, ◌+◌, ◌<◌, sym, subst, ℕ, List, length}
use Rattle.std.specs.Prelude.{◌↔◌, IsTrue}
use Rattle.ideal_heap.specs.Ideal.{IdealHeap}
use Rattle.ideal_heap.specs.Runs.{Entry}
use Rattle.block_regions.proofs.Lists.{get-some}
use Rattle.managed_value.proofs.Places as places
use Rattle.managed_value.proofs.Registers as registers
use Rattle.managed_value.proofs.managed.ManagedHeap.same.Goals as goal

pub hold_one_address-requires-clause-place : goal.hold_one_address-requires-clause-place
hold_one_address-requires-clause-place g c =
    subst (λ (n : ℕ). c.args.m < n) (sym c.mutators.ensures.places) (places.place-here g.P.Plan.rules c.args.self.now c.in-Some.world c.in-Some.is c.args.m c.requires.place)

pub returns-in-Some : goal.returns-in-Some
returns-in-Some g c = λ i stands.
    let es : List Entry = stands.entries in
    let us = c.mutators.result.now.items in
    let below : c.args.m < length us =
    subst (λ (n : ℕ). c.args.m < n) (sym c.mutators.ensures.places) (places.place-here g.P.Plan.rules c.args.self.now c.in-Some.world c.in-Some.is c.args.m c.requires.place) in
    let u = get-some us c.args.m below in
    let test = c.hold_one_address.ensures u.0 u.1 in
    subst (λ (k : IdealHeap). IsTrue c.hold_one_address.result ↔ (k.registers (c.args.m + 1) c.args.s ≡ k.registers (c.args.m + 1) c.args.v)) (sym stands.ideal) (
      (λ one. registers.same-names g.P.Plan.rules c.args.self.now c.in-Some.world es stands.has c.in-Some.is c.args.m u.0 us c.mutators.ensures.states u.1 c.args.s c.args.v
          c.requires.first c.requires.second (test.0 one)),
      (λ same. test.1 (registers.same-addresses g.P.Plan.rules c.args.self.now c.in-Some.world es stands.has c.in-Some.is c.args.m u.0 us c.mutators.ensures.states u.1 c.args.s c.args.v
          c.requires.first c.requires.second same)),
    )

pub returns-in-None : goal.returns-in-None
returns-in-None g c = absurd (places.not-lost g.P.Plan.rules c.args.self.now c.requires.usable c.in-None.is)
