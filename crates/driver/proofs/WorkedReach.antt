-- What the worked ideal heap reaches.
use Rattle.std.proofs.Common.{◌≡◌, refl, sym, ap, subst, ℕ, zero, suc, inl, inr, arith, Bool, true, false, [], ◌∷◌, Some, None, unwrap_or, nat_eq, slice_get, if◌then◌else◌}
use Rattle.std.specs.List.{AllPairs, Any}
use Rattle.std.proofs.lemmas.Option.{none-some}
use Rattle.std.proofs.lemmas.List.Elements.{All-from_recursion}
use Rattle.std.proofs.lemmas.List.Kept.{AllPairs-cons}
use Rattle.ideal_heap.specs.declared.name.Name.{Name}
use Rattle.ideal_heap.specs.Names.{IsBefore, name}
use Rattle.ideal_heap.specs.Ideal.{Nil, At, name_of_field, at_number, record_of}
use Rattle.ideal_heap.specs.Reach as reach
use Rattle.ideal_heap.specs.Reach.{PathReaches}
use Rattle.driver.specs.LiveNames.{AreLiveNames}
use Rattle.driver.specs.WorkedReach.{worked_ideal, worked_names}
use Rattle.driver.proofs.LiveNames.{here, later, first-or-later, none-there}

abbrev IsThere : Name → Type 0
IsThere n = Any (λ x. x ≡ n) worked_names

large-there : IsThere (name 1 2)
large-there = here (name 1 2) (name 1 3 ∷ name 2 1 ∷ []) (name 1 2) refl

shared-there : IsThere (name 1 3)
shared-there = later (name 1 2) (name 1 3 ∷ name 2 1 ∷ []) (name 1 3) (here (name 1 3) (name 2 1 ∷ []) (name 1 3) refl)

second-there : IsThere (name 2 1)
second-there = later (name 1 2) (name 1 3 ∷ name 2 1 ∷ []) (name 2 1) (later (name 1 3) (name 2 1 ∷ []) (name 2 1) (here (name 2 1) [] (name 2 1) refl))

named : (x y : Name) → Some x ≡ Some y → x ≡ y
named x y e = ap (λ o. unwrap_or o x) e

-- the only register and the only global that are not nil
tested : (b : Bool) (x y : Name) → (if b then Some x else None) ≡ Some y → x ≡ y
tested true x y e = named x y e
tested false x y e = absurd (none-some y e)

register-of : (b : Bool) (d : ℕ) (y : Name) → (if b then at_number (λ _. None) 3 (Some (name 2 1)) else (λ _. None)) d ≡ Some y → name 2 1 ≡ y
register-of true d y e = tested (nat_eq d 3) (name 2 1) y e
register-of false d y e = absurd (none-some y e)

-- what the fields of the three objects name
no-field : (i : ℕ) (to : Name) → slice_get (record_of worked_ideal (name 1 2)).refs i ≡ Some (At to) → ⊥
no-field i to e = none-some (At to) e

nil-field : (i : ℕ) (to : Name) → slice_get (record_of worked_ideal (name 1 3)).refs i ≡ Some (At to) → ⊥
nil-field zero to e = let wrong : Nil ≡ At to = ap (λ o. unwrap_or o Nil) e in cc
nil-field (suc i) to e = none-some (At to) e

one-field : (i : ℕ) (to : Name) → slice_get (record_of worked_ideal (name 2 1)).refs i ≡ Some (At to) → name 1 2 ≡ to
one-field zero to e = named (name 1 2) to (ap (λ o. name_of_field (unwrap_or o Nil)) e)
one-field (suc i) to e = absurd (none-some (At to) e)

field-there : (n : Name) (i : ℕ) (to : Name) → IsThere n → slice_get (record_of worked_ideal n).refs i ≡ Some (At to) → IsThere to
field-there n i to there e = elim (first-or-later (name 1 2) (name 1 3 ∷ name 2 1 ∷ []) n there) as (λ _. IsThere to) [
  | inl is ↦ absurd (no-field i to (subst (λ (m : Name). slice_get (record_of worked_ideal m).refs i ≡ Some (At to)) (sym is) e))
  | inr more ↦ elim (first-or-later (name 1 3) (name 2 1 ∷ []) n more) as (λ _. IsThere to) [
    | inl is ↦ absurd (nil-field i to (subst (λ (m : Name). slice_get (record_of worked_ideal m).refs i ≡ Some (At to)) (sym is) e))
    | inr last ↦ elim (first-or-later (name 2 1) [] n last) as (λ _. IsThere to) [
      | inl is ↦ subst IsThere (one-field i to (subst (λ (m : Name). slice_get (record_of worked_ideal m).refs i ≡ Some (At to)) (sym is) e)) large-there
      | inr none ↦ absurd (none-there n none)
    ]
  ]
]

pub reached-there : (n : Name) → PathReaches worked_ideal n → IsThere n
reached-there n (reach.from_register m d e) = subst IsThere (register-of (nat_eq m 2) d n e) second-there
reached-there n (reach.from_global g e) = subst IsThere (tested (nat_eq g 5) (name 1 3) n e) shared-there
reached-there n (reach.from_field m i before e) = field-there m i n (reached-there m before) e

second-reached : PathReaches worked_ideal (name 2 1)
second-reached = reach.from_register 2 3 refl

large-reached : PathReaches worked_ideal (name 1 2)
large-reached = reach.from_field (name 2 1) 0 second-reached refl

pub shared-reached : PathReaches worked_ideal (name 1 3)
shared-reached = reach.from_global 5 refl

there-reached : (n : Name) → IsThere n → PathReaches worked_ideal n
there-reached n there = elim (first-or-later (name 1 2) (name 1 3 ∷ name 2 1 ∷ []) n there) as (λ _. PathReaches worked_ideal n) [
  | inl is ↦ subst (PathReaches worked_ideal) is large-reached
  | inr more ↦ elim (first-or-later (name 1 3) (name 2 1 ∷ []) n more) as (λ _. PathReaches worked_ideal n) [
    | inl is ↦ subst (PathReaches worked_ideal) is shared-reached
    | inr last ↦ elim (first-or-later (name 2 1) [] n last) as (λ _. PathReaches worked_ideal n) [
      | inl is ↦ subst (PathReaches worked_ideal) is second-reached
      | inr none ↦ absurd (none-there n none)
    ]
  ]
]

pub pairs-of-three : {X : Type 0} (R : X → X → Type 0) (x y z : X) → R x y → R x z → R y z → AllPairs R (x ∷ y ∷ z ∷ [])
pairs-of-three R x y z one two three = AllPairs-cons R x (y ∷ z ∷ []) (All-from_recursion (R x) (y ∷ z ∷ []) (one, (two, tt)))
    (AllPairs-cons R y (z ∷ []) (All-from_recursion (R y) (z ∷ []) (three, tt)) (AllPairs-cons R z [] (All-from_recursion (R z) [] tt) (λ i j d less low. absurd (omega (arith, low)))))

rising : AllPairs IsBefore worked_names
rising = pairs-of-three IsBefore (name 1 2) (name 1 3) (name 2 1) (inr (refl, omega arith)) (inl (omega arith)) (inl (omega arith))

pub live : AreLiveNames worked_ideal worked_names
live = record { all = λ n. (reached-there n, there-reached n); rise = rising }

-- a dead name is not there, and 1.3 is in no list without it
births-differ : (m n : Name) → (m.birth ≡ n.birth → ⊥) → m ≡ n → ⊥
births-differ m n differ same = differ (ap (λ (x : Name). x.birth) same)

pub dead-not-there : IsThere (name 1 1) → ⊥
dead-not-there there = elim (first-or-later (name 1 2) (name 1 3 ∷ name 2 1 ∷ []) (name 1 1) there) as (λ _. ⊥) [
  | inl is ↦ births-differ (name 1 2) (name 1 1) (λ e. omega (arith, e)) is
  | inr more ↦ elim (first-or-later (name 1 3) (name 2 1 ∷ []) (name 1 1) more) as (λ _. ⊥) [
    | inl is ↦ births-differ (name 1 3) (name 1 1) (λ e. omega (arith, e)) is
    | inr last ↦ elim (first-or-later (name 2 1) [] (name 1 1) last) as (λ _. ⊥) [
      | inl is ↦ (let wrong : 2 ≡ 1 = ap (λ (x : Name). x.mutator) is in omega (arith, wrong))
      | inr none ↦ none-there (name 1 1) none
    ]
  ]
]

pub shared-needed : Any (λ x. x ≡ name 1 3) (name 1 2 ∷ name 2 1 ∷ []) → ⊥
shared-needed there = elim (first-or-later (name 1 2) (name 2 1 ∷ []) (name 1 3) there) as (λ _. ⊥) [
  | inl is ↦ births-differ (name 1 2) (name 1 3) (λ e. omega (arith, e)) is
  | inr last ↦ elim (first-or-later (name 2 1) [] (name 1 3) last) as (λ _. ⊥) [
    | inl is ↦ births-differ (name 2 1) (name 1 3) (λ e. omega (arith, e)) is
    | inr none ↦ none-there (name 1 3) none
  ]
]
