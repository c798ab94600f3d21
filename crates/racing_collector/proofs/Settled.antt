-- A root more gets its target.
use Rattle.std.proofs.Common.{◌≡◌, ◌∙◌, ℕ, ◌<◌, inl, inr, nat_eq, List, [], ◌∷◌, ◌++◌, All, length, map, set, slice_index, refl, sym, ap, arith}
use Rattle.std.proofs.lemmas.Bool.{cases_eq, ne_eqb}
use Rattle.std.proofs.lemmas.List.{map-append, get_or-set_same, get_or-set_other}
use Rattle.std.proofs.lemmas.List.Elements.{All-head}
use Rattle.object_model.specs.Times.{times, one_if}
use Rattle.trace_core.proofs.CountedRights.{count-append, times-cons}
use Rattle.racing_collector.specs.declared.served.Served.{Served}
use Rattle.racing_collector.specs.Accounts.{places}
use Rattle.racing_collector.proofs.Accounting.{all-left, all-right}

pub map-same : {A : Type 0} (l : List A) → map (λ x. x) l ≡ l
map-same [] = refl
map-same (x ∷ l) = ap (λ k. x ∷ k) (map-same l)

pub settles : (roots : List ℕ) (before : List Served) (s : Served) → s.place < length roots
    → ((F : ℕ → ℕ) → All (λ (u : Served). u.target ≡ F u.place) before → (i : ℕ) → 0 < times i (places before) → slice_index roots i ≡ F i)
    → (F : ℕ → ℕ) → All (λ (u : Served). u.target ≡ F u.place) (before ++ s ∷ []) → (i : ℕ) → 0 < times i (places (before ++ s ∷ [])) → slice_index (set roots s.place s.target) i ≡ F i
settles roots before s inside was F all i some = elim (cases_eq i s.place) as (λ _. slice_index (set roots s.place s.target) i ≡ F i) [
  | inl here ↦ ap (slice_index (set roots s.place s.target)) here ∙ get_or-set_same roots s.place s.target 0 inside
      ∙ All-head (λ (u : Served). u.target ≡ F u.place) s [] (all-right (λ (u : Served). u.target ≡ F u.place) before (s ∷ []) all) ∙ ap F (sym here)
  | inr other ↦ get_or-set_other roots s.place i s.target 0 other ∙ was F (all-left (λ (u : Served). u.target ≡ F u.place) before (s ∷ []) all) i
      (let a : times i (places (before ++ s ∷ [])) ≡ times i (places before ++ places (s ∷ [])) = ap (times i) (map-append (λ (u : Served). u.place) before (s ∷ [])) in
      let b = count-append (nat_eq i) (places before) (places (s ∷ [])) in let c = times-cons s.place [] i in let d : one_if (nat_eq i s.place) ≡ 0 = ap one_if (ne_eqb i s.place other) in omega arith)
]
