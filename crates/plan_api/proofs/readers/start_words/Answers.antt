use Rattle.std.proofs.Common.{◌<◌, length, ◌∙◌, arith, below_more, get_or-set_same, get_or-set_other, ◌≢◌, length-set}
use Rattle.plan_api.proofs.readers.start_words.Goals as goal

pub loop-index-preserved : goal.loop-index-preserved
loop-index-preserved g c = (
  length-set c.loop-index.starts c.loop-index.index c.get.result ∙ c.loop-index.invariant.0,
  below_more _ _
      (λ k h. let ne : k ≢ c.loop-index.index = omega arith in get_or-set_other c.loop-index.starts c.loop-index.index k c.get.result 0 ne ∙ c.loop-index.invariant.1 k h)
      (let lt : c.loop-index.index < length c.loop-index.starts = omega arith in get_or-set_same c.loop-index.starts c.loop-index.index c.get.result 0 lt ∙ c.get.ensures),
)
