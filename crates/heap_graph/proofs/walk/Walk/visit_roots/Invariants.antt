use Rattle.std.proofs.Common.{slice_index}
use Rattle.object_model.specs.Heaps.{heap_state}
use Rattle.heap_graph.specs.Walks.{met, IsWalk, Adds}
use Rattle.heap_graph.proofs.walk.Walk.visit_roots.Given as goal

abbrev pub invariant-loop-root : goal.invariant-loop-root
invariant-loop-root l = record {
  walk : IsWalk (heap_state l.heap) l.self;
  adds : Adds (λ i. slice_index l.roots i) l.root-index (met l.initial.self) (met l.self);
}
