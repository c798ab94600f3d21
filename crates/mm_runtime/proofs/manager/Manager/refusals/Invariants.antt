use Rattle.std.specs.Prelude.{count_by}
use Rattle.ideal_heap.specs.Runs.{is_full}
use Rattle.mm_runtime.proofs.ReplyCounts.{SumsFirst}
use Rattle.mm_runtime.proofs.manager.Manager.refusals.Given as goal

abbrev pub invariant-loop-progress : goal.invariant-loop-progress
invariant-loop-progress g l = SumsFirst (λ p. count_by is_full p.replies.items) l.self.progress.items l.progress-index l.count
