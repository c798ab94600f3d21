use Rattle.std.proofs.Common.{refl, rules}
use Rattle.racing_mutator.proofs.Looking.{step-loads}
use Rattle.racing_mutator.proofs.Looked.{line-found}
use Rattle.racing_mutator.proofs.racing.Racing.look_side.Goals as goal

pub returns-clause-looks : goal.returns-clause-looks
returns-clause-looks g c = step-loads g.P.Plan.rules _ _ _ _ refl (search rules) (search rules) c.look.ensures.notes refl c.look.ensures.step c.requires.ready.own.2 c.look.ensures.registers refl refl refl

pub returns-clause-line : goal.returns-clause-line
returns-clause-line g c zone = line-found g.P.Plan.rules c.args.self.now _ c.args.at c.look.result c.requires.ready.own.2 c.look.ensures.step zone
