-- Copied words fit as they did.
use Rattle.std.proofs.Common.{ℕ, ◌≡◌, ◌+◌, ◌-◌, ◌<◌, ◌^◌, inl, inr, List, slice_index, sym, subst, ap, ◌∙◌, arith}
use Rattle.std.proofs.lemmas.Bool.{cases_lt}
use Rattle.shared_row.specs.Words.{AllFit, IsCopied}

pub copied_fit : (old new : List ℕ) (from to count : ℕ) → IsCopied old new from to count → AllFit old → AllFit new
copied_fit old new from to count is fit i = elim (cases_lt i to) as (λ _. slice_index new i < 2 ^ 64) [
  | inl low ↦ subst (λ n. n < 2 ^ 64) (sym (is.others i (inl low))) (fit i)
  | inr above ↦ elim (cases_lt i (to + count)) as (λ _. slice_index new i < 2 ^ 64) [
    | inl within ↦ (let at : to + (i - to) ≡ i = omega arith in
        subst (λ n. n < 2 ^ 64) (sym (is.copied (i - to) (omega arith)) ∙ ap (slice_index new) at) (fit (from + (i - to))))
    | inr after ↦ subst (λ n. n < 2 ^ 64) (sym (is.others i (inr after))) (fit i)
  ]
]
