use Rattle.object_model.specs.Objects.{ref_at}
use Rattle.object_model.specs.Heaps.{heap_state}
use Rattle.heap_graph.specs.Walks.{met, IsWalk, Adds}
use Rattle.heap_graph.proofs.walk.Walk.visit_fields.Given as goal

abbrev pub invariant-loop-index : goal.invariant-loop-index
invariant-loop-index l = record {
  walk : IsWalk (heap_state l.heap) l.self;
  adds : Adds (ref_at (heap_state l.heap) l.address) l.index (met l.initial.self) (met l.self);
}
