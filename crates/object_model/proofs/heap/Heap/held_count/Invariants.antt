use Rattle.std.proofs.Common.{◌+◌, ◌*◌}
use Rattle.heap_layout.specs.Zones.{heap_of}
use Rattle.object_model.specs.Heaps.{heap_state}
use Rattle.object_model.proofs.HeldCounts.{CountsBelow}
use Rattle.object_model.proofs.heap.Heap.held_count.Given as goal

abbrev pub invariant-loop-index : goal.invariant-loop-index
invariant-loop-index l = CountsBelow (heap_state l.fn.self) (heap_of (heap_state l.fn.self).blocks + 64 * l.index) l.objects l.words
