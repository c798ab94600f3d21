use Rattle.std.proofs.Common.{◌≡◌, ◌++◌, map}
use Rattle.std.specs.List.{range_with_len}
use Rattle.object_model.specs.Heaps.{heap_state}
use Rattle.object_model.specs.Objects.{global_at}
use Rattle.mm_runtime.proofs.reports.add_globals.Given as goal

abbrev pub invariant-loop-global : goal.invariant-loop-global
invariant-loop-global l = l.roots.items ≡ l.fn.roots.items ++ map (global_at (heap_state l.heap)) (range_with_len 0 l.global)
