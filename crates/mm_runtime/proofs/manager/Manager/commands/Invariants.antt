use Rattle.std.proofs.Common.{length}
use Rattle.mm_runtime.proofs.ReplyCounts.{SumsFirst}
use Rattle.mm_runtime.proofs.manager.Manager.commands.Given as goal

abbrev pub invariant-loop-progress : goal.invariant-loop-progress
invariant-loop-progress g l = SumsFirst (λ p. length p.replies.items) l.self.progress.items l.progress-index l.count
