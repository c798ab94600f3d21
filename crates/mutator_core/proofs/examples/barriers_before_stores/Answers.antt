use Rattle.std.proofs.Common.{refl, ℕ, ◌≡◌, ◌<◌, inl, inr, arith}
use Rattle.std.proofs.lemmas.Bool.{true≢false}
use Rattle.mutator_core.proofs.examples.barriers_before_stores.Goals as goal

pub returns-clause-steps : goal.returns-clause-steps
returns-clause-steps c = (
  (0, omega arith, refl),
  (omega arith, omega arith),
  refl,
  (
    (0, omega arith, refl),
    (omega arith, omega arith),
    refl,
    (
      (0, omega arith, refl),
      (omega arith, omega arith),
      refl,
      (
        (0, omega arith, refl),
        ((omega arith, omega arith), refl),
        refl,
        ((0, omega arith, refl), (omega arith, ((omega arith, omega arith, refl), omega arith), inr (inr refl), inr refl), refl, tt),
      ),
    ),
  ),
)

pub returns-clause-before : goal.returns-clause-before
returns-clause-before c is = elim is.3.3.1.2 as (λ _. ⊥) [
  | inl young ↦ true≢false young
  | inr other ↦ elim other as (λ _. ⊥) [
    | inl recent ↦ true≢false recent.1
    | inr logged ↦ (let wrong : ◌≡◌ {A = ℕ} 0 215 = logged in omega arith)
  ]
]

pub returns-clause-nil : goal.returns-clause-nil
returns-clause-nil c is = (let wrong : 0 < 0 = is.1.1 in omega arith)
