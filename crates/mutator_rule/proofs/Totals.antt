-- How many seats stand for a mutator.
use Rattle.std.proofs.Common.{◌≡◌, ◌≢◌, ℕ, zero, suc, ◌+◌, ◌<◌, ◌≤◌, ◌==◌, Bool, cond, eq-eqb, List, [], ◌∷◌, ◌++◌, set, refl, ap, sym, arith}
use Rattle.std.specs.Prelude.{sum_by}
use Rattle.std.proofs.lemmas.List.Sums.{sum_by-cons, sum_by-append}
use mathlib.Core.Option.{some, some-ne-none, some-injective}
use lib.ListN.{get_elem?}
use Rattle.mutator_rule.specs.declared.views.MutatorView.{MutatorView}
use Rattle.mutator_rule.specs.Views.{views_of}

module _ {A : Type 0} (f : A → ℕ) where
  pub total_set : (xs : List A) (i : ℕ) (v w : A) → get_elem? xs i ≡ some v → sum_by f (set xs i w) + f v ≡ sum_by f xs + f w
  total_set [] i v w e = absurd (some-ne-none v (sym e))
  total_set (x ∷ xs) zero v w e = let same : f x ≡ f v = ap f (some-injective x v e) in omega (arith, sum_by-cons f w xs, sum_by-cons f x xs)
  total_set (x ∷ xs) (suc i) v w e = omega (arith, sum_by-cons f x (set xs i w), sum_by-cons f x xs, total_set xs i v w e)

  pub total_one : (xs : List A) (i : ℕ) (v : A) → get_elem? xs i ≡ some v → f v ≤ sum_by f xs
  total_one [] i v e = absurd (some-ne-none v (sym e))
  total_one (x ∷ xs) zero v e = let same : f x ≡ f v = ap f (some-injective x v e) in omega (arith, sum_by-cons f x xs)
  total_one (x ∷ xs) (suc i) v e = omega (arith, sum_by-cons f x xs, total_one xs i v e)

  -- two places are counted both
  pub total_two : (xs : List A) (i j : ℕ) (v w : A) → j ≢ i → get_elem? xs i ≡ some v → get_elem? xs j ≡ some w → f v + f w ≤ sum_by f xs
  total_two [] i j v w ne e d = absurd (some-ne-none v (sym e))
  total_two (x ∷ xs) zero zero v w ne e d = absurd (ne refl)
  total_two (x ∷ xs) zero (suc j) v w ne e d = let same : f x ≡ f v = ap f (some-injective x v e) in omega (arith, sum_by-cons f x xs, total_one xs j w d)
  total_two (x ∷ xs) (suc i) zero v w ne e d = let same : f x ≡ f w = ap f (some-injective x w d) in omega (arith, sum_by-cons f x xs, total_one xs i v e)
  total_two (x ∷ xs) (suc i) (suc j) v w ne e d = omega (arith, sum_by-cons f x xs, total_two xs i j v w (λ s. ne (ap suc s)) e d)

pub parts_one : (m : ℕ) (p : MutatorView) → p.local.number ≡ m → views_of m (p ∷ []) ≡ 1
parts_one m p is = let one : cond {A = ℕ} (p.local.number == m) 1 0 ≡ 1 = ap (λ (b : Bool). cond {A = ℕ} b 1 0) (eq-eqb p.local.number m is) in omega (arith, sum_by-cons (λ (x : MutatorView). cond (x.local.number == m) 1 0) p [])

pub parts_append : (m : ℕ) (xs ys : List MutatorView) → views_of m (xs ++ ys) ≡ views_of m xs + views_of m ys
parts_append m xs ys = sum_by-append (λ (x : MutatorView). cond (x.local.number == m) 1 0) xs ys

-- a part that stands there is counted
pub parts_has : (m : ℕ) (ps : List MutatorView) (k : ℕ) (p : MutatorView) → get_elem? ps k ≡ some p → p.local.number ≡ m → 0 < views_of m ps
parts_has m ps k p at is =
    let one : cond {A = ℕ} (p.local.number == m) 1 0 ≡ 1 = ap (λ (b : Bool). cond {A = ℕ} b 1 0) (eq-eqb p.local.number m is) in
    omega (arith, total_one (λ (x : MutatorView). cond (x.local.number == m) 1 0) ps k p at)
