use Rattle.std.proofs.Common.{◌/◌, ◌<◌, ◌^◌, arith, refl, rules}
use Rattle.racing_mutator.proofs.Looking.{step-loads}
use Rattle.racing_mutator.proofs.Barrier.{name-read, birth-fits}
use Rattle.racing_mutator.proofs.racing.RacingMutatorSteps.load_name.Goals as goal

pub returns-clause-looks : goal.returns-clause-looks
returns-clause-looks g c = step-loads g.P.Plan.rules _ _ _ _ refl (search rules) (search rules) c.look-word.ensures.notes refl c.look-word.ensures.step c.requires.ready.own.2 c.look-word.ensures.registers refl refl refl

pub returns-clause-name : goal.returns-clause-name
returns-clause-name g c = name-read g.P.Plan.rules c.args.self.now _ c.requires.ready.own.2 c.args.register c.look-word.result c.requires.register c.requires.some c.look-word.ensures.step

pub overflow_cast-result-2 : goal.overflow_cast-result-2
overflow_cast-result-2 g c = let n : c.look-word.result / 32 < 2 ^ 32 = birth-fits g.P.Plan.rules c.args.self.now _ c.requires.ready.own.2 c.args.register c.look-word.result c.requires.register c.requires.some c.look-word.ensures.step in omega (arith, n)
