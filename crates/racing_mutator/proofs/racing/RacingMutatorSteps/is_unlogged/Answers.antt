use Rattle.std.proofs.Common.{refl, rules}
use Rattle.racing_mutator.proofs.Looking.{step-loads}
use Rattle.std.proofs.Common.{ℕ, ap, sym, ◌∙◌, nat_eq}
use Rattle.std.specs.Int.{bit_at}
use Rattle.std.proofs.lemmas.Bool.{eqb-true}
use Rattle.racing_mutator.proofs.Barrier.{marked-before, logged-after}
use Rattle.racing_mutator.proofs.racing.RacingMutatorSteps.is_unlogged.Goals as goal

pub returns-clause-looks : goal.returns-clause-looks
returns-clause-looks g c = step-loads g.P.Plan.rules _ _ _ _ refl (search rules) (search rules) c.look-word.ensures.notes refl c.look-word.ensures.step c.requires.ready.own.2 c.look-word.ensures.registers refl refl refl

pub returns-clause-marked : goal.returns-clause-marked
returns-clause-marked g c is = marked-before g.P.Plan.rules c.args.self.now _ c.requires.ready.own.2 c.args.register c.look-word.result c.requires.register c.requires.some c.look-word.ensures.step
    (ap (λ (k : ℕ). bit_at c.look-word.result k) (sym c.unlog_bit-at.ensures.place) ∙ eqb-true _ 1 (sym c.is_set.ensures ∙ is))

pub returns-clause-logged : goal.returns-clause-logged
returns-clause-logged g c is = logged-after g.P.Plan.rules c.args.self.now _ c.requires.ready.own.2 c.args.register c.look-word.result c.requires.register c.requires.some c.look-word.ensures.step
    (ap (λ (k : ℕ). nat_eq (bit_at c.look-word.result k) 1) (sym c.unlog_bit-at.ensures.place) ∙ sym c.is_set.ensures ∙ is)
