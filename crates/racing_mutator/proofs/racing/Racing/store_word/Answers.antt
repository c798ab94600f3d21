use Rattle.std.proofs.Common.{◌∙◌, sym, refl, ap, ℕ, rules}
use Rattle.ideal_heap.specs.declared.name.Name.{Name}
use Rattle.mutator_core.specs.declared.state.Local.{Local}
use Rattle.mutator_core.specs.Machine.{birth_word}
use Rattle.racing_mutator.proofs.Entered.{step-makes}
use Rattle.racing_mutator.proofs.racing.Racing.store_word.Goals as goal

pub put-requires-clause-stored : goal.put-requires-clause-stored
put-requires-clause-stored g c = ap {B = ℕ → ℕ} (λ v n. v) (ap (λ (m : Name). birth_word m c.args.shape.now.refs c.args.shape.now.nums c.args.offset) (sym c.requires.name) ∙ sym c.initial_word-value.ensures)

pub returns-clause-makes : goal.returns-clause-makes
returns-clause-makes g c = step-makes g.P.Plan.rules _ _ _ _ (search rules) (search rules) c.put.ensures.notes refl c.put.ensures.step.1 (λ some. ap (λ (l : Local). l.stop) c.put.ensures.step.1.local)
