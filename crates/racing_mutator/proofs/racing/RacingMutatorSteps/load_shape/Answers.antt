use Rattle.std.proofs.Common.{refl, rules}
use Rattle.racing_mutator.proofs.Looking.{step-loads}
use Rattle.racing_mutator.proofs.racing.RacingMutatorSteps.load_shape.Goals as goal

pub returns-clause-looks : goal.returns-clause-looks
returns-clause-looks g c = step-loads g.P.Plan.rules _ _ _ _ refl (search rules) (search rules) c.look-word.ensures.notes refl c.look-word.ensures.step c.requires.ready.own.2 c.look-word.ensures.registers refl refl refl
