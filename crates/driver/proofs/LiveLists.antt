-- Lists that have all objects that are reachable, decided by tests of roots, globals and fields.
use Rattle.std.proofs.Common.{◌≡◌, sym, ◌∙◌, subst, ℕ, zero, suc, ◌<◌, inl, inr, arith, Bool, true, false, ◌||◌, IsTrue, List, [], ◌∷◌, length, nat_eq, slice_index}
use Rattle.std.specs.List.{Any, list_all, list_any, range_with_len, AllByRecursion}
use Rattle.std.proofs.Math.ListN.{get_or, get_or-eq_default}
use Rattle.std.proofs.lemmas.Bool.{true≢false, cases_lt, cases_Bool, or_cases, eqb-true}
use Rattle.std.proofs.lemmas.Grind.{get_or_default_zero}
use Rattle.std.proofs.lemmas.List.Folds.{list_all_at, Any-from_list_any, list_any-from_Any}
use Rattle.std.proofs.lemmas.List.FromFn.{get_or-range_with_len, length-range_with_len}
use Rattle.object_model.specs.Objects.{HeapState, global_at, refs_at, ref_at, is_reference}
use Rattle.object_model.specs.Graphs as graphs
use Rattle.object_model.specs.Graphs.{IsReachable}

-- an element of a list whose elements all pass
passes : (p : ℕ → Bool) (xs : List ℕ) (i : ℕ) → list_all p xs ≡ true → i < length xs → p (slice_index xs i) ≡ true
passes p xs i all low = elim (cases_Bool (p (slice_index xs i))) as (λ _. p (slice_index xs i) ≡ true) [
  | inl e ↦ e
  | inr e ↦ absurd (true≢false (sym all ∙ list_all_at p xs i 0 low e))
]

-- a number below n, where all pass
passes-below : (p : ℕ → Bool) (n i : ℕ) → list_all p (range_with_len 0 n) ≡ true → i < n → p i ≡ true
passes-below p n i all low =
    let at : slice_index (range_with_len 0 n) i ≡ i = get_or-range_with_len 0 n i 0 low ∙ (omega arith) in
    subst (λ (x : ℕ). p x ≡ true) at
    (passes p (range_with_len 0 n) i all (subst (λ (x : ℕ). i < x) (sym (length-range_with_len 0 n)) low))

abbrev pub is_in : List ℕ → ℕ → Bool
is_in xs a = list_any (λ x. nat_eq x a) xs

pub in-any : (xs : List ℕ) (a : ℕ) → is_in xs a ≡ true → Any (λ x. x ≡ a) xs
in-any xs a there =
    let found = Any-from_list_any (λ x. nat_eq x a) xs there in
    (found.0, found.1, found.2, found.3, eqb-true found.1 a found.4)

same : (n : ℕ) → nat_eq n n ≡ true
same n = grind arith

pub any-in : (xs : List ℕ) (a : ℕ) → Any (λ x. x ≡ a) xs → is_in xs a ≡ true
any-in xs a there = list_any-from_Any (λ x. nat_eq x a) xs (there.0, there.1, there.2, there.3, subst (λ (y : ℕ). nat_eq there.1 y ≡ true) there.4 (same there.1))

-- nil, or in the list
abbrev pub is_nil_or_in : List ℕ → ℕ → Bool
is_nil_or_in xs v = nat_eq v 0 || is_in xs v

some-in : (xs : List ℕ) (v : ℕ) → is_nil_or_in xs v ≡ true → 0 < v → is_in xs v ≡ true
some-in xs v fine some = elim (or_cases (nat_eq v 0) (is_in xs v) fine) as (λ _. is_in xs v ≡ true) [
  | inl e ↦ (let nil : v ≡ 0 = eqb-true v 0 e in absurd (omega arith))
  | inr e ↦ e
]

-- all fields of an object are nil or in the list
abbrev pub are_fields_in : HeapState → List ℕ → ℕ → Bool
are_fields_in s xs x = list_all (λ i. is_nil_or_in xs (ref_at s x i)) (range_with_len 0 (refs_at s x))

-- what is reachable is in a list that has roots and globals, and all that its objects refer to
module _ (s : HeapState) (roots xs : List ℕ) (from_roots : list_all (is_nil_or_in xs) roots ≡ true) (from_globals : list_all (λ g. is_nil_or_in xs (global_at s g)) (range_with_len 0 16) ≡ true)
    (from_fields : list_all (are_fields_in s xs) xs ≡ true) where
  root-in : (i a : ℕ) → slice_index roots i ≡ a → 0 < a → is_in xs a ≡ true
  root-in i a e some = elim (cases_lt i (length roots)) as (λ _. is_in xs a ≡ true) [
    | inl low ↦ some-in xs a (subst (λ (v : ℕ). is_nil_or_in xs v ≡ true) e (passes (is_nil_or_in xs) roots i from_roots low)) some
    | inr high ↦ (let nil : slice_index roots i ≡ 0 = get_or-eq_default roots 0 high in absurd (omega (arith, nil, e, some)))
  ]

  fields-in : (x : ℕ) → is_in xs x ≡ true → are_fields_in s xs x ≡ true
  fields-in x there =
      let found = in-any xs x there in
      let at : slice_index xs found.0 ≡ x = sym (get_or_default_zero xs found.0 found.1 found.2) ∙ found.3 ∙ found.4 in
      subst (λ (y : ℕ). are_fields_in s xs y ≡ true) at (passes (are_fields_in s xs) xs found.0 from_fields found.2)

  pub reached-in : (a : ℕ) → IsReachable s roots a → is_in xs a ≡ true
  reached-in a (graphs.from_root i e some) = root-in i a e some
  reached-in a (graphs.from_global g few e some) =
      some-in xs a (subst (λ (v : ℕ). is_nil_or_in xs v ≡ true) e (passes-below (λ h. is_nil_or_in xs (global_at s h)) 16 g from_globals few)) some
  reached-in a (graphs.from_field x i before within e refers) =
      some-in xs a (subst (λ (v : ℕ). is_nil_or_in xs v ≡ true) e (passes-below (λ j. is_nil_or_in xs (ref_at s x j)) (refs_at s x) i (fields-in x (reached-in x before)) within))
      (some a refers)
    where
      some : (v : ℕ) → IsTrue (is_reference v) → 0 < v
      some zero refers = let wrong : false ≡ true = refers in cc
      some (suc v) refers = omega arith

-- what holds of each element, at an index
pub each-at : (P : ℕ → Type 0) (xs : List ℕ) (k d : ℕ) → AllByRecursion P xs → k < length xs → P (get_or xs k d)
each-at P [] k d all low = absurd (omega (arith, low))
each-at P (x ∷ xs) zero d all low = all.0
each-at P (x ∷ xs) (suc k) d all low = each-at P xs k d all.1 (omega (arith, low))

pub all-any : (P : ℕ → Type 0) (xs : List ℕ) (a : ℕ) → AllByRecursion P xs → Any (λ x. x ≡ a) xs → P a
all-any P xs a all there = subst P (there.3 ∙ there.4) (each-at P xs there.0 there.1 all there.2)
