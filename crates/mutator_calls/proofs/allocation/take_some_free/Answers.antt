use Rattle.std.proofs.Common.{◌∙◌, refl, below_more}
use Rattle.mutator_calls.specs.Effects.{nothing, grants}
use Rattle.mutator_calls.proofs.allocation.take_some_free.Goals as goal

pub returns-then-take_free-clause-offered : goal.returns-then-take_free-clause-offered
returns-then-take_free-clause-offered g c =
    c.loop-block.invariant.6 c.take_free.new.self c.args.size (c.if-take_free.ensures.offered refl)

pub returns-then-take_free-clause-grants : goal.returns-then-take_free-clause-grants
returns-then-take_free-clause-grants g c = (
  c.loop-block.block,
  g.met.S.MutatorSteps.one_after_another _ _ _ nothing (grants c.loop-block.block) c.loop-block.invariant.2
      c.if-take_free.ensures.goes,
  (λ j lacks other. c.if-take_free.ensures.stays c.args.size j other (c.loop-block.invariant.3 j lacks)),
  (λ j below. c.if-take_free.ensures.still j (c.loop-block.invariant.4 j below)),
  c.if-take_free.ensures.region refl,
)

pub returns-then-take_free-clause-keeps : goal.returns-then-take_free-clause-keeps
returns-then-take_free-clause-keeps g c = λ is.
    let stayed = g.met.S.AllocationSteps.regions_stay _ _ nothing c.loop-block.invariant.2 refl in
    g.met.S.AllocationSteps.hole_stays_kept _ _ _ (g.met.S.AllocationSteps.hole_stays _ _ stayed)
    (c.if-take_free.ensures.keeps (g.met.S.AllocationSteps.overflows_stay _ _ c.args.size stayed is))

pub returns-then-take_free-clause-overflow : goal.returns-then-take_free-clause-overflow
returns-then-take_free-clause-overflow g c = λ is.
    let stayed = g.met.S.AllocationSteps.regions_stay _ _ nothing c.loop-block.invariant.2 refl in
    c.if-take_free.ensures.overflow (g.met.S.AllocationSteps.overflows_stay _ _ c.args.size stayed is)

pub loop-block-preserved : goal.loop-block-preserved
loop-block-preserved g c = (
  c.if-take_free.ensures.ready refl,
  c.loop-block.invariant.1,
  g.met.S.MutatorSteps.one_after_another _ _ _ nothing nothing c.loop-block.invariant.2 c.if-take_free.ensures.goes,
  (λ k lacks. c.if-take_free.ensures.same refl c.args.size k (c.loop-block.invariant.3 k lacks)),
  below_more (λ k. g.S.AllocationSteps.is_used c.take_free.new.self k) c.loop-block.block
      (λ k below. c.if-take_free.ensures.still k (c.loop-block.invariant.4 k below))
      (c.if-take_free.ensures.used refl),
  c.if-take_free.ensures.books ∙ c.loop-block.invariant.5,
  (λ b n offers. c.loop-block.invariant.6 b n (c.if-take_free.ensures.offers b n refl offers)),
)
