-- The order in which the words of an object are copied.
use Rattle.std.proofs.Common.{◌≡◌, ◌≢◌, ℕ, ◌+◌, ◌-◌, ◌<◌, ◌≤◌, inl, inr, nat_eq, nat_lt, ap, ◌∙◌, arith}
use Rattle.std.proofs.lemmas.Bool.{lt-ltb, le-ltb, eq-eqb, ne_eqb, cases_eq, cases_lt, cond-true, cond-false}
use Rattle.object_model.specs.Objects.{word_at}
use Rattle.trace_core.specs.Setups.{Setup}
use Rattle.trace_core.specs.Machine.{offset_of_step, step_of_offset, claimed_word, copied_word}

module _ (n : ℕ) (least : 3 ≤ n) where
  first-step : (k : ℕ) → k < 2 → offset_of_step n k ≡ k
  first-step k l = cond-true (nat_lt k 2) k _ (lt-ltb k 2 l)

  middle-step : (k : ℕ) → 2 ≤ k → k + 1 < n → offset_of_step n k ≡ k + 1
  middle-step k l m = cond-false (nat_lt k 2) k _ (le-ltb k 2 (omega arith)) ∙ cond-true (nat_lt (k + 1) n) (k + 1) 2 (lt-ltb (k + 1) n m)

  last-step : (k : ℕ) → 2 ≤ k → n ≤ k + 1 → offset_of_step n k ≡ 2
  last-step k l m = cond-false (nat_lt k 2) k _ (le-ltb k 2 (omega arith)) ∙ cond-false (nat_lt (k + 1) n) (k + 1) 2 (le-ltb (k + 1) n (omega arith))

  first-offset : (o : ℕ) → o < 2 → step_of_offset n o ≡ o
  first-offset o l = cond-true (nat_lt o 2) o _ (lt-ltb o 2 l)

  later-offset : (o : ℕ) → 3 ≤ o → step_of_offset n o ≡ o - 1
  later-offset o l = cond-false (nat_lt o 2) o _ (le-ltb o 2 (omega arith)) ∙ cond-false (nat_eq o 2) (n - 1) (o - 1) (ne_eqb o 2 (λ e. omega arith))

  -- each step copies a word of the object, and the word that it copies is copied by this step alone
  pub step-inside : (k : ℕ) → k < n → offset_of_step n k < n
  step-inside k l = elim (cases_lt k 2) as (λ _. offset_of_step n k < n) [
    | inl early ↦ (let e = first-step k early in omega arith)
    | inr late ↦ elim (cases_lt (k + 1) n) as (λ _. offset_of_step n k < n) [
      | inl more ↦ (let e = middle-step k (omega arith) more in omega arith)
      | inr end ↦ (let e = last-step k (omega arith) (omega arith) in omega arith)
    ]
  ]

  pub offset-inside : (o : ℕ) → o < n → step_of_offset n o < n
  offset-inside o l = elim (cases_lt o 2) as (λ _. step_of_offset n o < n) [
    | inl early ↦ (let e = first-offset o early in omega arith)
    | inr late ↦ elim (cases_eq o 2) as (λ _. step_of_offset n o < n) [
      | inl at ↦ (let e : step_of_offset n o ≡ n - 1 = ap (step_of_offset n) at in omega arith)
      | inr other ↦ (let ne : o ≢ 2 = other in let e = later-offset o (omega arith) in omega arith)
    ]
  ]

  pub offset-of-step : (o k : ℕ) → o < n → step_of_offset n o ≡ k → o ≡ offset_of_step n k
  offset-of-step o k l is = elim (cases_lt o 2) as (λ _. o ≡ offset_of_step n k) [
    | inl early ↦ (let e = first-offset o early in let d = first-step k (omega arith) in omega arith)
    | inr late ↦ elim (cases_eq o 2) as (λ _. o ≡ offset_of_step n k) [
      | inl at ↦ (let e : step_of_offset n o ≡ n - 1 = ap (step_of_offset n) at in let d = last-step k (omega arith) (omega arith) in omega arith)
      | inr other ↦ (let ne : o ≢ 2 = other in let e = later-offset o (omega arith) in let d = middle-step k (omega arith) (omega arith) in omega arith)
    ]
  ]

  pub offset-step : (k : ℕ) → k < n → step_of_offset n (offset_of_step n k) ≡ k
  offset-step k l = elim (cases_lt k 2) as (λ _. step_of_offset n (offset_of_step n k) ≡ k) [
    | inl early ↦ ap (step_of_offset n) (first-step k early) ∙ first-offset k early
    | inr late ↦ elim (cases_lt (k + 1) n) as (λ _. step_of_offset n (offset_of_step n k) ≡ k) [
      | inl more ↦ ap (step_of_offset n) (middle-step k (omega arith) more) ∙ later-offset (k + 1) (omega arith) ∙ (omega arith)
      | inr end ↦ ap (step_of_offset n) (last-step k (omega arith) (omega arith)) ∙ (omega arith)
    ]
  ]

-- the word of the copy at an offset
pub copied-plain : (p : Setup) (x t o : ℕ) → o ≢ 2 → copied_word p x t o ≡ word_at p.before (x + o)
copied-plain p x t o ne = cond-false (nat_eq o 2) (claimed_word p x t) (word_at p.before (x + o)) (ne_eqb o 2 ne)

pub copied-collector : (p : Setup) (x t o : ℕ) → o ≡ 2 → copied_word p x t o ≡ claimed_word p x t
copied-collector p x t o e = cond-true (nat_eq o 2) (claimed_word p x t) (word_at p.before (x + o)) (eq-eqb o 2 e)
