use Rattle.std.proofs.Common.{refl, rules}
use Rattle.racing_mutator.proofs.Entered.{step-does}
use Rattle.racing_mutator.proofs.racing.RacingMutatorSteps.load_number.Goals as goal

pub returns-clause-goes : goal.returns-clause-goes
returns-clause-goes g c = step-does g.P.Plan.rules _ _ _ _ (search rules) (search rules) c.look.ensures.notes refl c.look.ensures.step _ refl refl refl refl refl refl
