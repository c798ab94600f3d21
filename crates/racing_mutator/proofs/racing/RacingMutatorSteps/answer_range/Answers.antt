use Rattle.std.proofs.Common.{rules}
use Rattle.racing_mutator.proofs.Entered.{range-does}
use Rattle.racing_mutator.proofs.racing.RacingMutatorSteps.answer_range.Goals as goal

pub returns-clause-goes : goal.returns-clause-goes
returns-clause-goes g c = range-does g.P.Plan.rules _ _ _ _ (search rules) (search rules) c.look.ensures.notes c.look.ensures.step c.requires.shape.some
