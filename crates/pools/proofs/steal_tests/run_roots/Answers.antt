use Rattle.std.proofs.Common.{inr}
use Rattle.pools.specs.declared.tests.TheConstants.{HIGHEST}
use Rattle.pools.proofs.steal_tests.run_roots.Goals as goal

pub run_bucket-requires-clause-takes : goal.run_bucket-requires-clause-takes
run_bucket-requires-clause-takes g c κs within = (HIGHEST, c.in_ok-workers.ensures.home, c.in_ok-first.ensures.takes)

pub run_bucket-requires-clause-awaits : goal.run_bucket-requires-clause-awaits
run_bucket-requires-clause-awaits g c κs within = inr (λ w ps. (tt, λ qs e. tt))
