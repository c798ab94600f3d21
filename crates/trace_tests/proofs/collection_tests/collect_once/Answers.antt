use Rattle.collector.proofs.Offered.{full-offered}
use Rattle.trace_tests.proofs.collection_tests.collect_once.Goals as goal

pub collect_counted-requires-clause-offered : goal.collect_counted-requires-clause-offered
collect_counted-requires-clause-offered g c κs within = full-offered g.P.Plan.rules _
