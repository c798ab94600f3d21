use Rattle.std.proofs.Common.{◌<◌, ◌∙◌, refl, arith, below_more}
use Rattle.mutator_calls.specs.Effects.{nothing, takes}
use Rattle.mutator_calls.proofs.allocation.take_some_hole.Goals as goal

pub returns-then-take_hole-clause-offered : goal.returns-then-take_hole-clause-offered
returns-then-take_hole-clause-offered g c = λ _.
    c.loop-block.invariant.5 c.take_hole.new.self c.args.size (c.if-take_hole.ensures.offered refl)

pub returns-then-take_hole-clause-taken : goal.returns-then-take_hole-clause-taken
returns-then-take_hole-clause-taken g c = λ _. let took = c.if-take_hole.ensures.taken refl in (
  c.loop-block.block,
  took.0,
  took.1,
  g.met.S.MutatorSteps.one_after_another _ _ _ nothing (takes took.0) c.loop-block.invariant.2 took.2,
  (λ j below. c.if-take_hole.ensures.others c.args.size j (λ same. let less : j < c.loop-block.block = below in omega arith)
      (c.loop-block.invariant.3 j below)),
  c.if-take_hole.ensures.region refl,
  λ j lacks other. c.if-take_hole.ensures.others c.args.size j other (c.loop-block.invariant.6 j lacks),
)

pub returns-then-take_hole-clause-still : goal.returns-then-take_hole-clause-still
returns-then-take_hole-clause-still g c = λ j used. c.if-take_hole.ensures.still j (c.loop-block.invariant.7 j used)

pub returns-clause-still : goal.returns-clause-still
returns-clause-still g c = λ j used. c.loop-block.invariant.7 j used

pub returns-clause-same : goal.returns-clause-same
returns-clause-same g c = λ b n _ offers. c.loop-block.invariant.5 b n offers

pub loop-block-preserved : goal.loop-block-preserved
loop-block-preserved g c = (
  c.if-take_hole.ensures.ready refl,
  c.loop-block.invariant.1,
  g.met.S.MutatorSteps.one_after_another _ _ _ nothing nothing c.loop-block.invariant.2 (c.if-take_hole.ensures.goes refl),
  below_more (λ k. g.S.AllocationSteps.has_no_room c.take_hole.new.self c.args.size k) c.loop-block.block
      (λ k below. c.if-take_hole.ensures.stays c.args.size k refl (c.loop-block.invariant.3 k below))
      (c.if-take_hole.ensures.lacks refl),
  c.if-take_hole.ensures.books ∙ c.loop-block.invariant.4,
  (λ b n offers. c.loop-block.invariant.5 b n (c.if-take_hole.ensures.same b n refl offers)),
  (λ j lacks. c.if-take_hole.ensures.stays c.args.size j refl (c.loop-block.invariant.6 j lacks)),
  (λ j used. c.if-take_hole.ensures.still j (c.loop-block.invariant.7 j used)),
  c.if-take_hole.ensures.full refl,
)
