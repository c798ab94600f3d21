use Rattle.object_model.specs.Objects.{global_at}
use Rattle.object_model.specs.Heaps.{heap_state}
use Rattle.heap_graph.specs.Walks.{met}
use Rattle.heap_graph.proofs.WalkLemmas.{adds-nothing, adds-next}
use Rattle.heap_graph.proofs.walk.Walk.visit_globals.Goals as goal

pub loop-global-init : goal.loop-global-init
loop-global-init c = record { walk = c.requires.walk; adds = adds-nothing (global_at (heap_state c.args.heap.now)) (met c.args.self.now) }

pub loop-global-preserved : goal.loop-global-preserved
loop-global-preserved c = record {
  walk = c.in_ok-visit.ensures.walk;
  adds = adds-next (global_at (heap_state c.args.heap.now)) c.loop-global.global _ (met c.args.self.now) (met c.loop-global.self) _ c.global_at.ensures.value c.loop-global.invariant.adds c.in_ok-visit.ensures.adds;
}
