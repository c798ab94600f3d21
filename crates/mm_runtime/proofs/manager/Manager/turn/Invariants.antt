use Rattle.std.proofs.Common.{◌≡◌, ◌<◌, ℕ}
use Rattle.std.specs.Prelude.{Some, None, slice_get}
use Rattle.mm_runtime.specs.declared.progress.Progress.{Progress}
use Rattle.mm_runtime.specs.Managers.{next_in_trace}
use Rattle.mm_runtime.proofs.manager.Manager.turn.Given as goal

abbrev pub invariant-loop-progress : goal.invariant-loop-progress
invariant-loop-progress g l = (k : ℕ) (p : Progress) → k < l.progress-index → slice_get l.self.progress.items k ≡ Some p → next_in_trace p ≡ None
