use Rattle.std.proofs.Common.{◌≢◌, ◌<◌, ℕ}
use Rattle.std.specs.Prelude.{Some, slice_get}
use Rattle.mm_runtime.specs.declared.progress.PartEnd.TheVariants as end
use Rattle.mm_runtime.proofs.collections_at_gc.some_gc.Given as goal

abbrev pub invariant-loop-end : goal.invariant-loop-end
invariant-loop-end l = (k : ℕ) → k < l.end-index → slice_get l.ends k ≢ Some end.Gc
