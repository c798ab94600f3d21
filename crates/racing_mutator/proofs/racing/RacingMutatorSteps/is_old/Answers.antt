use Rattle.std.proofs.Common.{refl, rules}
use Rattle.racing_mutator.proofs.Looking.{step-loads}
use Rattle.std.proofs.Common.{ℕ, ap, sym, ◌∙◌}
use Rattle.forward_word.specs.CollectorWords.{is_old_word}
use Rattle.racing_mutator.proofs.Barrier.{base-same, old-before, young-after}
use Rattle.racing_mutator.proofs.racing.RacingMutatorSteps.is_old.Goals as goal

pub returns-clause-looks : goal.returns-clause-looks
returns-clause-looks g c = step-loads g.P.Plan.rules _ _ _ _ refl (search rules) (search rules) c.look-word.ensures.notes refl c.look-word.ensures.step c.requires.ready.own.2 c.look-word.ensures.registers refl refl refl

pub returns-clause-aged : goal.returns-clause-aged
returns-clause-aged g c is = old-before g.P.Plan.rules c.args.self.now _ c.requires.ready.own.2 c.args.register c.look-word.result c.requires.register c.requires.some c.look-word.ensures.step
    (ap (λ (b : ℕ). is_old_word b c.look-word.result) (sym (c.base.ensures ∙ base-same g.P.Plan.rules c.args.self.now c.requires.ready)) ∙ sym c.is_old.ensures ∙ is)

pub returns-clause-young : goal.returns-clause-young
returns-clause-young g c is = young-after g.P.Plan.rules c.args.self.now _ c.requires.ready.own.2 c.args.register c.look-word.result c.requires.register c.requires.some c.look-word.ensures.step
    (ap (λ (b : ℕ). is_old_word b c.look-word.result) (sym (c.base.ensures ∙ base-same g.P.Plan.rules c.args.self.now c.requires.ready)) ∙ sym c.is_old.ensures ∙ is)
