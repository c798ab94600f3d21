use Rattle.std.proofs.Common.{◌≡◌, ℕ}
use Rattle.std.specs.Prelude.{Some, slice_get}
use Rattle.mm_runtime.specs.declared.progress.Progress.{Progress}
use Rattle.mm_runtime.specs.Managers.{traces_of, IsFresh}
use Rattle.mm_runtime.proofs.manager.all_progress.Given as goal

abbrev pub invariant-loop-trace : goal.invariant-loop-trace
invariant-loop-trace l = record {
  traces : traces_of l.progress.items ≡ l.yielded;
  fresh : (k : ℕ) (p : Progress) → slice_get l.progress.items k ≡ Some p → IsFresh p.trace p;
}
