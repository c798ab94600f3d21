-- The beginning of an epoch of a world.
use Rattle.ideal_heap.specs.Ideal.{IdealHeap}
use Rattle.object_model.specs.Graphs.{Represents}
use Rattle.mutator_core.specs.Machine.{Epoch}

-- heap and mutators represent some ideal heap as the epoch begins
abbrev pub BeginsIdeal : Epoch → Type 0
BeginsIdeal p = (i : IdealHeap) × Represents p.before p.mutators i
