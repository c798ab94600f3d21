use Rattle.std.proofs.Common.{◌∙◌, ap, subst, ℕ, [], ◌∷◌}
use Rattle.ideal_heap.specs.Ideal.{step}
use Rattle.object_model.specs.Objects.{IsHeld}
use Rattle.object_model.specs.Graphs.{Represents, with_mutator}
use Rattle.object_model.specs.Agreement.{RepresentsOn}
use Rattle.object_model.proofs.TwoSteps.{other-stays, new-there, stay-on}
use Rattle.object_model.proofs.step_laws.steps_follow_steps.Goals as goal

pub returns-clause-other : goal.returns-clause-other
returns-clause-other c s mid new m k m' k' one two r q ms h order standing among among' differ first second =
    let between = first.represents ms h order standing among in
    let there = other-stays ms m' k among' (λ same. differ (same ∙ first.number)) in
    let end = second.represents (with_mutator ms m') (step h m.number one).1 between.0 between.1 there in
    (first.gives_reply ms h order standing among, second.gives_reply (with_mutator ms m') (step h m.number one).1 between.0 between.1 there, end.0, end.1)

pub returns-clause-same : goal.returns-clause-same
returns-clause-same c s mid new m m' m'' one two r q ms h order standing among first second =
    let between = first.represents ms h order standing among in
    let there = new-there ms m m' among first.number in
    let end = second.represents (with_mutator ms m') (step h m.number one).1 between.0 between.1 there in (
      first.gives_reply ms h order standing among,
      second.gives_reply (with_mutator ms m') (step h m.number one).1 between.0 between.1 there ∙ ap (λ (n : ℕ). (step (step h m.number one).1 n two).0) first.number,
      end.0,
      subst (λ (n : ℕ). Represents new (with_mutator (with_mutator ms m') m'') (step (step h m.number one).1 n two).1) first.number end.1,
    )

pub returns-clause-alone : goal.returns-clause-alone
returns-clause-alone c s mid new m m' m'' one two r q h model first second =
    let between = first.models h model in (
      first.answers h model,
      second.answers (step h m.number one).1 between ∙ ap (λ (n : ℕ). (step (step h m.number one).1 n two).0) first.number,
      subst (λ (n : ℕ). RepresentsOn new (m'' ∷ []) (step (step h m.number one).1 n two).1 (IsHeld new)) first.number (second.models (step h m.number one).1 between),
    )

pub returns-clause-stay : goal.returns-clause-stay
returns-clause-stay c s mid new m k m' k' one two r q first second = (stay-on s mid new first.keeps second.keeps, first.number, first.births, first.no_birth)
