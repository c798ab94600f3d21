use Rattle.driver.specs.Prelude.{left, ClosesSome}
use Rattle.session_tests.proofs.epoch_tests.run_by.Given as goal

abbrev pub invariant-epochs : goal.invariant-epochs
invariant-epochs g l = ClosesSome g.P.Plan.rules l.manager

abbrev pub decreases-epochs : goal.decreases-epochs
decreases-epochs g l = left l.manager.progress.items
