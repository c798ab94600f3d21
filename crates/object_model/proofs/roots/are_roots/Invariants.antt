use Rattle.std.proofs.Common.{ℕ, ◌<◌, slice_index}
use Rattle.object_model.specs.Heaps.{heap_state}
use Rattle.object_model.specs.Lawful.{IsRoot}
use Rattle.object_model.proofs.roots.are_roots.Given as goal

abbrev pub invariant-loop-root : goal.invariant-loop-root
invariant-loop-root l = (i : ℕ) → i < l.root-index → IsRoot (heap_state l.heap) (slice_index l.roots i)
