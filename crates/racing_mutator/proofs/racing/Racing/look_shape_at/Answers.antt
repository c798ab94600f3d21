use Rattle.std.proofs.Common.{◌+◌, ◌<◌, sym, refl, subst, ℕ, rules}
use Rattle.racing_mutator.proofs.Looking.{step-loads}
use Rattle.racing_mutator.proofs.Looked.{shape-inside, shape-small}
use Rattle.racing_mutator.proofs.Pinned.{words-same}
use Rattle.racing_mutator.proofs.racing.Racing.look_shape_at.Goals as goal

pub returns-clause-looks : goal.returns-clause-looks
returns-clause-looks g c = step-loads g.P.Plan.rules _ _ _ _ refl (search rules) (search rules) c.look.ensures.notes refl c.look.ensures.step c.requires.ready.own.2 c.look.ensures.registers refl refl refl

pub look-requires-clause-inside : goal.look-requires-clause-inside
look-requires-clause-inside g c = subst (λ (n : ℕ). c.args.address + 1 < n) (sym (words-same g.P.Plan.rules c.args.self.now c.requires.ready)) (shape-inside g.P.Plan.rules c.args.self.now c.requires.ready.own.2 c.args.address c.requires.address c.requires.start)

pub returns-clause-refs : goal.returns-clause-refs
returns-clause-refs g c = (shape-small g.P.Plan.rules c.args.self.now c.requires.ready.own.2 c.args.address c.requires.address c.requires.start _ c.look.result c.look.ensures.step).0

pub returns-clause-nums : goal.returns-clause-nums
returns-clause-nums g c = (shape-small g.P.Plan.rules c.args.self.now c.requires.ready.own.2 c.args.address c.requires.address c.requires.start _ c.look.result c.look.ensures.step).1
