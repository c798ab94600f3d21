-- One element of a list read, or replaced.
use Rattle.std.proofs.Common.{◌≡◌, ◌≢◌, refl, sym, ◌∙◌, ap, subst, ℕ, zero, suc, ◌<◌, ◌⊎◌, inl, inr, arith, List, [], ◌∷◌, length, length-set, get_or}
use Rattle.std.specs.Prelude.{Some, slice_get, slice_set}
use Rattle.std.proofs.lemmas.Bool.{cases_eq}
use Rattle.std.proofs.lemmas.Option.{slice_get_read}
use Rattle.block_regions.specs.Elements.{ChangesAt}
use Rattle.block_regions.proofs.Lists.{one-element}

pub set-here : {A : Type 0} (xs : List A) (k : ℕ) (x : A) → k < length xs → slice_get (slice_set xs k x) k ≡ Some x
set-here [] k x there = absurd (omega arith)
set-here (y ∷ ys) zero x there = refl
set-here (y ∷ ys) (suc k) x there = set-here ys k x (let less : suc k < suc (length ys) = there in omega arith)

pub set-other : {A : Type 0} (xs : List A) (k : ℕ) (x : A) (j : ℕ) → j ≢ k → slice_get (slice_set xs k x) j ≡ slice_get xs j
set-other [] k x j other = refl
set-other (y ∷ ys) zero x zero other = absurd (other refl)
set-other (y ∷ ys) zero x (suc j) other = refl
set-other (y ∷ ys) (suc k) x zero other = refl
set-other (y ∷ ys) (suc k) x (suc j) other = set-other ys k x j (λ same. other (ap suc same))

pub set-changes : {A : Type 0} (xs : List A) (k : ℕ) (x : A) → k < length xs → ChangesAt xs (slice_set xs k x) k x
set-changes xs k x there = record {
  len = length-set xs k x;
  here = set-here xs k x there;
  others = set-other xs k x;
}

-- the element that an index below the length reads
pub read-some : {A : Type 0} (xs : List A) (k : ℕ) (x : A) → k < length xs → x ≡ get_or xs k x → slice_get xs k ≡ Some x
read-some xs k x there is = slice_get_read xs (length xs) k x refl there is

-- an element of a list that changed at one place
pub changes-cases : {A : Type 0} (xs ys : List A) (at : ℕ) (x : A) → ChangesAt xs ys at x → (k : ℕ) (y : A) → slice_get ys k ≡ Some y
    → ((k ≡ at) × (y ≡ x)) ⊎ ((k ≢ at) × (slice_get xs k ≡ Some y))
changes-cases xs ys at x changes k y is = elim (cases_eq k at) as (λ _. ((k ≡ at) × (y ≡ x)) ⊎ ((k ≢ at) × (slice_get xs k ≡ Some y))) [
  | inl here ↦ inl (here, one-element (slice_get ys at) y x (subst (λ n. slice_get ys n ≡ Some y) here is) changes.here)
  | inr other ↦ inr (other, sym (changes.others k other) ∙ is)
]
