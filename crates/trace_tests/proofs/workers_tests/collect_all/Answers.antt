use Rattle.collector.proofs.Offered.{full-offered}
use Rattle.sessions.specs.Plans.{SemiSpace, rules_of}
use Rattle.trace_tests.proofs.workers_tests.collect_all.Goals as goal

pub collect-requires-clause-offered : goal.collect-requires-clause-offered
collect-requires-clause-offered g c κs within = full-offered (rules_of SemiSpace) _
