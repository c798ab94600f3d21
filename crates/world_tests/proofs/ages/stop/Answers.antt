use Rattle.collector.proofs.Offered.{full-offered}
use Rattle.world_tests.proofs.ages.stop.Goals as goal

pub collect_from-requires-clause-offered : goal.collect_from-requires-clause-offered
collect_from-requires-clause-offered g c κs within = full-offered g.P.Plan.rules _
