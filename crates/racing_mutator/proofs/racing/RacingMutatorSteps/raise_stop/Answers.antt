use Rattle.std.proofs.Common.{rules}
use Rattle.racing_mutator.proofs.Entered.{raise-does}
use Rattle.racing_mutator.proofs.racing.RacingMutatorSteps.raise_stop.Goals as goal

pub returns-clause-goes : goal.returns-clause-goes
returns-clause-goes g c = raise-does g.P.Plan.rules _ _ _ (search rules) (search rules) c.exchange.ensures.notes c.exchange.ensures.step
