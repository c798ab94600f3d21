use Rattle.object_model.specs.Objects.{ref_at}
use Rattle.object_model.specs.Heaps.{heap_state}
use Rattle.heap_graph.specs.Walks.{met}
use Rattle.heap_graph.proofs.WalkLemmas.{adds-nothing, adds-next}
use Rattle.heap_graph.proofs.walk.Walk.visit_fields.Goals as goal

pub loop-index-init : goal.loop-index-init
loop-index-init c = record { walk = c.requires.walk; adds = adds-nothing (ref_at (heap_state c.args.heap.now) c.args.address) (met c.args.self.now) }

pub loop-index-preserved : goal.loop-index-preserved
loop-index-preserved c = record {
  walk = c.in_ok-visit.ensures.walk;
  adds = adds-next (ref_at (heap_state c.args.heap.now) c.args.address) c.loop-index.index _ (met c.args.self.now) (met c.loop-index.self) _ c.ref_at.ensures.value c.loop-index.invariant.adds c.in_ok-visit.ensures.adds;
}
