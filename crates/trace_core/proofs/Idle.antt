-- A tracer that has nothing left to do has finished its trace.
use Rattle.std.proofs.Common.{◌≡◌, ℕ, ◌<◌, inl, inr, Bool, ◌&&◌, not, IsTrue, nat_eq, List, refl, sym, ap, ◌∙◌, subst, arith, Some}
use Rattle.std.proofs.lemmas.Bool.{cases_Bool, and_parts, and_from, eqb-true, eq-eqb, not_from_false}
use Rattle.trace_core.specs.Setups.{Setup, refs, stays_old, keeps_its_words, was_logged}
use Rattle.trace_core.specs.Machine.{Stage, Unclaimed, Copying, Scanning, target, Event}
use Rattle.trace_core.specs.Traces.{IsTracing, IsFinished, machine_after, stage_of}
use Rattle.trace_core.specs.Views.{View, Holds, NothingIsLeft, hits, is_copying, is_scanning, is_stage_copied}
use Rattle.object_model.specs.Times.{one_if}
use Rattle.trace_core.proofs.Objects.{Some-injective, None-not-Some}
use Rattle.trace_core.proofs.Clauses.{idle-stage}

pub one-if-from : (b : Bool) → 0 < one_if b → IsTrue b
one-if-from b some = elim (cases_Bool b) as (λ _. IsTrue b) [
  | inl is ↦ is
  | inr fails ↦ absurd (let zero : one_if b ≡ 0 = ap one_if fails in omega arith)
]

pub one-if-true : (b : Bool) → IsTrue b → one_if b ≡ 1
one-if-true b is = ap one_if is

module _ (p : Setup) (es : List Event) (trace : IsTracing p es) (v : View) (holds : Holds p (machine_after p es) v) (idle : NothingIsLeft p v) where
  scanned : (x u k : ℕ) → stage_of p es x ≡ Scanning u k → 0 < hits x (refs p x) v.grey → k ≡ refs p x
  scanned x u k is some =
      let right : IsTrue (not (keeps_its_words p x) && is_scanning (refs p x) (stage_of p es x)) = one-if-from _ (subst (λ n. 0 < n) (holds.grey x (refs p x)) some) in
      let both = and_parts (not (keeps_its_words p x)) (is_scanning (refs p x) (stage_of p es x)) right in
      eqb-true k (refs p x) (subst (λ st. IsTrue (is_scanning (refs p x) st)) is both.1)

  fields : (x u k : ℕ) → stage_of p es x ≡ Scanning u k → k ≡ refs p x
  fields x u k is = elim (cases_Bool (stays_old p x)) as (λ _. k ≡ refs p x) [
    | inl aged ↦ elim (cases_Bool (was_logged p x)) as (λ _. k ≡ refs p x) [
      | inl logged ↦ scanned x u k is (idle.logged x logged)
      | inr left ↦ ap fields-of (sym is ∙ idle-stage p es trace x aged left)
    ]
    | inr young ↦ scanned x u k is (idle.copied x (subst (λ n. 0 < n)
        (sym (holds.copied x ∙ one-if-true _ (and_from (not (stays_old p x)) (is_stage_copied (stage_of p es x)) (not_from_false (stays_old p x) young) (ap is_stage_copied is)))) (omega arith)))
  ]
    where
      fields-of : Stage → ℕ
      fields-of (Scanning t n) = n
      fields-of _ = 0

  by-stage : (x t : ℕ) (st : Stage) → stage_of p es x ≡ st → target st ≡ Some t → st ≡ Scanning t (refs p x)
  by-stage x t Unclaimed is some = absurd (None-not-Some t some)
  by-stage x t (Copying u k) is some =
      let none : hits x k v.won ≡ 0 = ap (hits x k) idle.won in
      let one : hits x k v.won ≡ 1 = holds.won x k ∙ ap (λ z. one_if (is_copying k z)) is ∙ one-if-true (nat_eq k k) (eq-eqb k k refl) in absurd (omega arith)
  by-stage x t (Scanning u k) is some = ap (λ z. Scanning z k) (Some-injective u t some) ∙ ap (Scanning t) (fields x u k is)

  pub finishes : IsFinished p (machine_after p es)
  finishes = record {
    globals = λ g few. one-if-from _ (subst (λ n. 0 < n) (holds.set g) (idle.globals g few));
    objects = λ x t is. by-stage x t (stage_of p es x) refl is;
  }
