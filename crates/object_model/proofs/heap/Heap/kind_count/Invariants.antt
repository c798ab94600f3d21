use Rattle.object_model.specs.Heaps.{heap_state}
use Rattle.object_model.proofs.HeldCounts.{KindsBelow}
use Rattle.object_model.proofs.heap.Heap.kind_count.Given as goal

abbrev pub invariant-loop-block : goal.invariant-loop-block
invariant-loop-block l = KindsBelow (heap_state l.fn.self) l.fn.kind l.block l.count
