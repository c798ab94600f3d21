use Rattle.std.proofs.Common.{refl, rules}
use Rattle.racing_mutator.proofs.Entered.{step-does}
use Rattle.racing_mutator.proofs.racing.RacingMutatorSteps.copy_register.Goals as goal

pub returns-clause-goes : goal.returns-clause-goes
returns-clause-goes g c = step-does g.P.Plan.rules _ _ _ _ (search rules) (search rules) c.copy.ensures.notes refl c.copy.ensures.step.1 _ refl refl refl refl refl refl
