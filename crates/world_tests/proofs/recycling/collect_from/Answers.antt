use Rattle.std.proofs.Common.{sym, subst}
use Rattle.object_model.specs.Heaps.{heap_state}
use Rattle.object_model.specs.declared.heap.Heap.{Heap}
use Rattle.sessions.proofs.CollectedMoments.{remembers-after-collection}
use Rattle.collector.specs.Collected.{IsOffered}
use Rattle.world_tests.proofs.recycling.collect_from.Goals as goal

pub collect-requires-clause-offered : goal.collect-requires-clause-offered
collect-requires-clause-offered g c κs within =
    subst (λ (h : Heap). IsOffered g.P.Plan.rules c.args.kind (heap_state h)) (sym c.with_roots-heap.ensures) c.requires.offered

pub returns : goal.returns
returns g c is =
    remembers-after-collection g.P.Plan.rules.collects g.P.Plan.rules 1 c.args.kind _ (heap_state c.in_ok-made.made.heap) _ _ is c.in_ok-made.ensures.collected.0 c.in_ok-made.made.heap.lawful
