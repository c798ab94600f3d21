-- The state of a `Heap`.
use Rattle.object_model.specs.declared.heap.Heap.{Heap}
use Rattle.object_model.specs.Objects.{HeapState, state_of}

abbrev pub heap_state : Heap → HeapState
heap_state h = state_of h.row
