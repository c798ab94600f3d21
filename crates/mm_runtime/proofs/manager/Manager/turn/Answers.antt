-- A trace with as many replies as commands has ended.
use Rattle.std.proofs.Common.{◌≡◌, refl, arith, None}
use Rattle.mm_runtime.specs.declared.manager.Turn.TheVariants as turn
use Rattle.mm_runtime.specs.Managers.{next_in_trace}
use Rattle.mm_runtime.proofs.Waits as waits
use Rattle.mm_runtime.proofs.manager.Manager.turn.Goals as goal

pub returns-then-len : goal.returns-then-len
returns-then-len g c = (
  λ same. let wrong : turn.More ≡ turn.Ended = same in cc,
  λ ended. absurd (waits.goes-on c.progress-item.result (omega arith) (ended c.loop-progress.progress-index c.progress-item.result
      (waits.item c.args.self.now.progress.items c.deref-progress-items.result.now c.loop-progress.progress-index c.progress-item.result c.deref-progress-items.ensures.value c.loop-progress-test.true c.progress-item.is))),
)

pub loop-progress-preserved : goal.loop-progress-preserved
loop-progress-preserved g c = waits.next-too (λ p. next_in_trace p ≡ None) c.args.self.now.progress.items c.loop-progress.progress-index c.progress-item.result
    (waits.item c.args.self.now.progress.items c.deref-progress-items.result.now c.loop-progress.progress-index c.progress-item.result c.deref-progress-items.ensures.value c.loop-progress-test.true c.progress-item.is)
    (waits.has-ended c.progress-item.result (omega arith)) c.loop-progress.invariant

pub returns : goal.returns
returns g c = (λ same k p is. c.loop-progress.invariant k p (waits.below c.args.self.now.progress.items c.deref-progress-items.result.now c.loop-progress.progress-index k p c.deref-progress-items.ensures.value c.loop-progress-test.false is) is, λ ended. refl)
