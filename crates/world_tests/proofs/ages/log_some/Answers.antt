use Rattle.std.proofs.Common.{sym, subst}
use Rattle.object_model.specs.declared.heap.Heap.{Heap}
use Rattle.object_model.specs.Heaps.{heap_state}
use Rattle.object_model.specs.Ages.{RemembersYoung}
use Rattle.world_tests.proofs.ages.log_some.Goals as goal
use Rattle.world_tests.proofs.ages.log_some.Goals.{then-eq, else-eq}

pub loop-old-preserved : goal.loop-old-preserved
loop-old-preserved g c rules before young = elim c.if-eq.branch as (λ _. RemembersYoung (heap_state c.if-eq.heap)) [
  | then-eq w ↦ subst (λ (h : Heap). RemembersYoung (heap_state h)) (sym w.heap-is) (w.log_at-heap.ensures rules (c.loop-old.invariant rules before) young)
  | else-eq w ↦ subst (λ (h : Heap). RemembersYoung (heap_state h)) (sym w.heap-is) (c.loop-old.invariant rules before young)
]
