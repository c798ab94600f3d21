use Rattle.std.proofs.Common.{inr}
use Rattle.pools.specs.declared.tests.TheConstants.{HIGHEST}
use Rattle.pools.proofs.tests.run_later.Goals as goal

pub run_bucket-requires-clause-takes : goal.run_bucket-requires-clause-takes
run_bucket-requires-clause-takes g c κs within = (HIGHEST, c.requires.home, c.requires.takes)

pub run_bucket-requires-clause-awaits : goal.run_bucket-requires-clause-awaits
run_bucket-requires-clause-awaits g c κs within = inr (λ w ps. (tt, λ qs e. tt))

pub returns : goal.returns
returns g c = c.workers_are_reached.ensures.stays (λ w. w.number) (λ w v p q h. h.1) _ c.in_ok-ran.ensures.once.1
