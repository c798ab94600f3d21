use Rattle.std.proofs.Common.{refl, rules}
use Rattle.racing_mutator.proofs.Looking.{step-loads}
use Rattle.racing_mutator.proofs.Looked.{unowned-found, owner-stays, code-found}
use Rattle.racing_mutator.proofs.racing.Racing.look_block.Goals as goal

pub returns-clause-looks : goal.returns-clause-looks
returns-clause-looks g c = step-loads g.P.Plan.rules _ _ _ _ refl (search rules) (search rules) c.look.ensures.notes refl c.look.ensures.step c.requires.ready.own.2 c.look.ensures.registers refl refl refl

pub returns-clause-word : goal.returns-clause-word
returns-clause-word g c none = unowned-found g.P.Plan.rules c.args.self.now _ c.args.block c.look.result c.requires.ready.own.2 c.look.ensures.step c.requires.block none

pub returns-clause-owned : goal.returns-clause-owned
returns-clause-owned g c some = owner-stays g.P.Plan.rules c.args.self.now _ c.args.block c.look.result c.requires.ready.own.2 c.look.ensures.step c.requires.block some

pub returns-clause-code : goal.returns-clause-code
returns-clause-code g c = code-found g.P.Plan.rules c.args.self.now _ c.args.block c.look.result c.requires.ready.own.2 c.look.ensures.step c.requires.block
