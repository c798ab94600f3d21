use Rattle.std.proofs.Common.{◌≤◌, ◌-◌, length}
use Rattle.heap_layout.specs.Zones.{row_words}
use Rattle.object_model.specs.Heaps.{heap_state}
use Rattle.heap_graph.specs.Walks.{met, IsWalk, ClosesFields}
use Rattle.heap_graph.proofs.walk.Walk.follow.Given as goal

abbrev pub decreases-loop-next : goal.decreases-loop-next
decreases-loop-next l = row_words (heap_state l.heap).blocks - l.next

abbrev pub invariant-loop-next : goal.invariant-loop-next
invariant-loop-next l = record {
  walk : IsWalk (heap_state l.heap) l.self;
  inside : l.next ≤ length (met l.self);
  closes : ClosesFields (heap_state l.heap) l.next (met l.initial.self) (met l.self);
}
