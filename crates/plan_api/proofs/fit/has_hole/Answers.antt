use Rattle.std.proofs.Common.{sym, ◌∙◌}
use Rattle.std.proofs.lemmas.Bool.{true≢false}
use Rattle.object_model.specs.Heaps.{heap_state}
use Rattle.plan_api.proofs.HoleTests.{none-more}
use Rattle.plan_api.proofs.fit.has_hole.Goals as goal

pub loop-block-preserved : goal.loop-block-preserved
loop-block-preserved c =
    none-more c.args.fill (heap_state c.args.heap.now) c.loop-block.block c.args.size c.loop-block.invariant (λ hole. true≢false (sym (c.has_hole_in.ensures.1 hole) ∙ c.if-has_hole_in.false))
