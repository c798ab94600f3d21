use Rattle.std.proofs.Common.{refl, ap, ◌≡◌, inl, inr, arith, []}
use Rattle.mutator_core.specs.declared.state.Loaded.{Loaded}
use Rattle.mutator_core.proofs.Lists.{contains-cases, contains-none}
use Rattle.mutator_core.proofs.examples.loads_are_recorded.Goals as goal

pub returns-clause-steps : goal.returns-clause-steps
returns-clause-steps c = (
  (0, omega arith, refl),
  omega arith,
  refl,
  (
    (0, omega arith, refl),
    inl (record { from = omega arith; below = omega arith }),
    refl,
    (
      (0, omega arith, refl),
      inr (record { from = omega arith; below = omega arith }),
      refl,
      (
        (0, omega arith, refl),
        (omega arith, omega arith),
        refl,
        (
          (0, omega arith, refl),
          (record { from = omega arith; below = omega arith }, (record { at = 23; word = 1 }, (1, omega arith, refl), refl, refl)),
          refl,
          tt,
        ),
      ),
    ),
  ),
)

pub returns-clause-used : goal.returns-clause-used
returns-clause-used c = record {
  loaded = record { at = 0; word = 2 };
  among = (0, omega arith, refl);
  here = refl;
  used = λ none. absurd (let wrong : 2 ≡ 0 = none in omega arith);
}

pub returns-clause-unseen : goal.returns-clause-unseen
returns-clause-unseen c is =
    let seen = is.3.3.1.1 in
    elim (contains-cases (record { at = 215; word = 33 }) [] seen.0 seen.1) as (λ _. ⊥) [
      | inl same ↦ (let at : seen.0.at ≡ 215 = ap (λ (x : Loaded). x.at) same in let here : seen.0.at ≡ 23 = seen.2 in omega arith)
      | inr none ↦ contains-none seen.0 none
    ]
