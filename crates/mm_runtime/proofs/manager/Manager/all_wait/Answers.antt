-- The first mutator that does not wait.
use Rattle.std.proofs.Common.{sym, ◌∙◌}
use Rattle.std.proofs.lemmas.Bool.{false≢true}
use Rattle.mm_runtime.proofs.Waits as waits
use Rattle.mm_runtime.proofs.manager.Manager.all_wait.Goals as goal

pub returns-then-not-waits : goal.returns-then-not-waits
returns-then-not-waits g c = (
  λ wrong. absurd (false≢true wrong),
  λ all. sym c.if-not-waits.true ∙ c.waits.ensures ∙ all c.loop-progress.progress-index c.progress-item.result
      (waits.item c.args.self.now.progress.items c.deref-progress-items.result.now c.loop-progress.progress-index c.progress-item.result c.deref-progress-items.ensures.value c.loop-progress-test.true c.progress-item.is),
)
