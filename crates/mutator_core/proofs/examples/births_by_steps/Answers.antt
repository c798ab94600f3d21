use Rattle.std.proofs.Common.{refl, sym, ap, ℕ, ◌≡◌, ◌<◌, inl, inr, arith}
use Rattle.std.proofs.lemmas.Option.{none-some}
use Rattle.heap_layout.specs.Blocks.{kind_code}
use Rattle.mutator_core.proofs.Lists.{contains-none}
use Rattle.mutator_core.proofs.examples.births_by_steps.Goals as goal

pub returns-clause-steps : goal.returns-clause-steps
returns-clause-steps c = (
  (0, omega arith, refl),
  refl,
  refl,
  (
    (0, omega arith, refl),
    (omega arith, refl, λ is. (0, refl, omega arith)),
    refl,
    (
      (0, omega arith, refl),
      (
        omega arith,
        inl (
          refl,
          record {
            none = refl;
            few_births = omega arith;
            few_refs = omega arith;
            few_nums = omega arith;
            small = omega arith;
            region = inr (inr (inl (refl, refl)));
            available = record {
              place = record {
                address = record { from = omega arith; below = omega arith };
                inside = omega arith;
                owned = record { block = 0; class = 0 };
                among = (0, omega arith, refl);
                here = refl;
                hole = inl refl;
                cell = λ e. absurd (let wrong : 1 ≡ 5 = ap kind_code e in omega arith);
              };
              beside = λ x there. absurd (contains-none x there);
            };
          },
        ),
      ),
      refl,
      (
        (0, omega arith, refl),
        (omega arith, inr (omega arith, omega arith, refl)),
        refl,
        (
          (0, omega arith, refl),
          (omega arith, inr (omega arith, omega arith, refl)),
          refl,
          (
            (0, omega arith, refl),
            (omega arith, inr (omega arith, omega arith, refl)),
            refl,
            (
              (0, omega arith, refl),
              (omega arith, inr (omega arith, omega arith, refl)),
              refl,
              ((0, omega arith, refl), (omega arith, omega arith, refl), refl, tt),
            ),
          ),
        ),
      ),
    ),
  ),
)

pub returns-clause-twice : goal.returns-clause-twice
returns-clause-twice c is = none-some 0 (sym is.3.1)

pub returns-clause-early : goal.returns-clause-early
returns-clause-early c is = none-some ((is.1.2 refl).0) ((is.1.2 refl).1)

pub returns-clause-again : goal.returns-clause-again
returns-clause-again c is = elim is.3.3.3.1.1 as (λ _. ⊥) [
  | inl begins ↦ (let wrong : ◌≡◌ {A = ℕ} 215 0 = ap (λ u. u.address) begins.1.none in omega arith)
  | inr goes_on ↦ (let wrong : 0 < 0 = goes_on.0 in omega arith)
]
