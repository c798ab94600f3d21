use Rattle.std.proofs.Common.{inr}
use Rattle.work_packets.specs.Steps.{pushed_by_all}
use Rattle.pools.specs.declared.tests.TheConstants.{HIGHEST}
use Rattle.pools.proofs.Trees.{for-release}
use Rattle.pools.proofs.tests.run_forest.Goals as goal

pub run_bucket-requires-clause-takes : goal.run_bucket-requires-clause-takes
run_bucket-requires-clause-takes g c κs within = (HIGHEST, c.in_ok-workers.ensures.home, c.in_ok-first.ensures.takes)

pub run_bucket-requires-clause-awaits : goal.run_bucket-requires-clause-awaits
run_bucket-requires-clause-awaits g c κs within = inr (λ w ps. (tt, λ qs e. tt))

pub returns-clause-home : goal.returns-clause-home
returns-clause-home g c = c.in_ok-ran.ensures.home HIGHEST c.in_ok-workers.ensures.home

pub returns-clause-takes : goal.returns-clause-takes
returns-clause-takes g c = c.in_ok-ran.ensures.takes HIGHEST c.in_ok-workers.ensures.home

pub returns-clause-bucket : goal.returns-clause-bucket
returns-clause-bucket g c = for-release (pushed_by_all c.in_ok-ran.ensures.once.0) _ c.in_ok-ran.ensures.once.1.left
