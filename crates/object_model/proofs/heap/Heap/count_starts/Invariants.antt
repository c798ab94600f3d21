use Rattle.object_model.specs.Heaps.{heap_state}
use Rattle.object_model.proofs.HeldWords.{CountsBut}
use Rattle.object_model.proofs.heap.Heap.count_starts.Given as goal

abbrev pub invariant-loop-rest : goal.invariant-loop-rest
invariant-loop-rest l = CountsBut (heap_state l.fn.self) l.fn.index l.rest l.objects l.words

abbrev pub decreases-loop-rest : goal.decreases-loop-rest
decreases-loop-rest l = l.rest
