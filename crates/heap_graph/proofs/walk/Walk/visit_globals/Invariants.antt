use Rattle.object_model.specs.Objects.{global_at}
use Rattle.object_model.specs.Heaps.{heap_state}
use Rattle.heap_graph.specs.Walks.{met, IsWalk, Adds}
use Rattle.heap_graph.proofs.walk.Walk.visit_globals.Given as goal

abbrev pub invariant-loop-global : goal.invariant-loop-global
invariant-loop-global l = record {
  walk : IsWalk (heap_state l.heap) l.self;
  adds : Adds (global_at (heap_state l.heap)) l.global (met l.initial.self) (met l.self);
}
