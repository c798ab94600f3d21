use Rattle.object_model.specs.Heaps.{heap_state}
use Rattle.object_model.specs.declared.collect.Collect.TheVariants.{Full}
use Rattle.sessions.proofs.CollectedMoments.{remembers-after-collection}
use Rattle.collector.proofs.Offered.{full-offered}
use Rattle.racing_tests.proofs.recycling.collect_from.Goals as goal

pub collect-requires-clause-offered : goal.collect-requires-clause-offered
collect-requires-clause-offered g c κs within = full-offered g.P.Plan.rules _

pub returns : goal.returns
returns g c is =
    remembers-after-collection g.P.Plan.rules.collects g.P.Plan.rules 1 Full _ (heap_state c.in_ok-made.made.heap) _ _ is c.in_ok-made.ensures.collected.0 c.in_ok-made.made.heap.lawful
