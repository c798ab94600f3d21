use Rattle.std.proofs.Common.{inl, ap, sym, ◌∙◌, bit_and, ◌==◌}
use Rattle.racing_mutator.proofs.YoungPlans.{young-flag}
use Rattle.racing_mutator.proofs.racing.RacingMutatorSteps.is_generational.Goals as goal

pub returns-clause-ages : goal.returns-clause-ages
returns-clause-ages g c is = sym (c.contains.ensures tt ∙ ap (λ f. bit_and f.0 2 == 2) c.FLAGS.ensures ∙ ap (λ n. bit_and n 2 == 2) g.met.P.Plan.flags_are_of_rules ∙ young-flag g.P.Plan.rules) ∙ is

pub returns-clause-none : goal.returns-clause-none
returns-clause-none g c is = λ s. inl (sym (c.contains.ensures tt ∙ ap (λ f. bit_and f.0 2 == 2) c.FLAGS.ensures ∙ ap (λ n. bit_and n 2 == 2) g.met.P.Plan.flags_are_of_rules ∙ young-flag g.P.Plan.rules) ∙ is)
