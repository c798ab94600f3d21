use Rattle.std.proofs.Common.{◌≡◌, refl, sym, ◌∙◌, ap, subst, ℕ, ◌<◌, inl, inr, arith, Bool, true, false, ◌||◌, [], nat_eq, lit<}
use Rattle.std.specs.List.{range_with_len, list_all}
use Rattle.std.proofs.lemmas.Bool.{eqb-true, or_cases}
use Rattle.ideal_heap.specs.Names.{name}
use Rattle.heap_graph.specs.declared.place.Place.{Place}
use Rattle.object_model.specs.Objects.{global_at, refs_at, ref_at}
use Rattle.object_model.specs.Graphs as graphs
use Rattle.object_model.specs.Graphs.{IsReachable}
use Rattle.worked_heaps.specs.WorkedKinds.{kinds_heap}
use Rattle.object_model.proofs.LawfulTests.{below}
use Rattle.object_model.proofs.References.{refers-some}
use Rattle.worked_heaps.proofs.worked_laws.wrong_graphs.Goals as goal

first : Place
first = record { name = name 1 1; at = 1212; size = 6 }

pub returns-clause-size : goal.returns-clause-size
returns-clause-size c is = (let n : ℕ = 7 in let e : n ≡ 6 = (is.each 0 first (lit< tt)).size in omega arith)

pub returns-clause-name : goal.returns-clause-name
returns-clause-name c is = (let n : ℕ = 2 in let e : n ≡ 1 = ap (λ x. x.birth) (is.each 0 first (lit< tt)).name in omega arith)

pub returns-clause-order : goal.returns-clause-order
returns-clause-order c is = elim (is.rise 0 1 first (lit< tt) (lit< tt)) [
  | inl before ↦ (let e : 1 < 1 = before in omega arith)
  | inr later ↦ (let e : 3 < 1 = later.1 in omega arith)
]

pub returns-clause-twice : goal.returns-clause-twice
returns-clause-twice c is = elim (is.rise 0 1 first (lit< tt) (lit< tt)) [
  | inl before ↦ (let e : 1 < 1 = before in omega arith)
  | inr later ↦ (let e : 1 < 1 = later.1 in omega arith)
]

pub returns-clause-missing : goal.returns-clause-missing
returns-clause-missing c is =
    let there = (is.reached 9392).0 (graphs.from_global 15 (lit< tt) refl (lit< tt)) in
    let less : there.0 < 0 = there.1 in
    omega arith

-- globals lead to these two objects alone
abbrev is_there : ℕ → Bool
is_there a = nat_eq a 1212 || nat_eq a 9392

abbrev nil_or_there : ℕ → Bool
nil_or_there v = nat_eq v 0 || is_there v

abbrev fields_there : ℕ → Bool
fields_there a = list_all (λ i. nil_or_there (ref_at kinds_heap a i)) (range_with_len 0 (refs_at kinds_heap a))

not-nil : (a : ℕ) → a ≡ 0 → 0 < a → ⊥
not-nil a nil some = omega arith

only : (a : ℕ) → IsReachable kinds_heap [] a → is_there a ≡ true
only a (graphs.from_root i e some) = absurd (let nil : 0 ≡ a = e in omega arith)
only a (graphs.from_global g small e some) =
    elim (or_cases (nat_eq (global_at kinds_heap g) 0) (is_there (global_at kinds_heap g)) (below (λ i. nil_or_there (global_at kinds_heap i)) 16 refl g small)) as (λ _. is_there a ≡ true) [
      | inl none ↦ absurd (not-nil a (sym e ∙ eqb-true _ _ none) some)
      | inr there ↦ subst (λ (x : ℕ). is_there x ≡ true) e there
    ]
only a (graphs.from_field x i before less e some) =
    let all : fields_there x ≡ true = elim (or_cases (nat_eq x 1212) (nat_eq x 9392) (only x before)) as (λ _. fields_there x ≡ true) [
      | inl one ↦ subst (λ (y : ℕ). fields_there y ≡ true) (sym (eqb-true x 1212 one)) refl
      | inr two ↦ subst (λ (y : ℕ). fields_there y ≡ true) (sym (eqb-true x 9392 two)) refl
    ] in
    elim (or_cases (nat_eq (ref_at kinds_heap x i) 0) (is_there (ref_at kinds_heap x i)) (below (λ j. nil_or_there (ref_at kinds_heap x j)) (refs_at kinds_heap x) all i less)) as (λ _. is_there a ≡ true) [
      | inl none ↦ absurd (refers-some a some (sym e ∙ eqb-true _ _ none))
      | inr there ↦ subst (λ (y : ℕ). is_there y ≡ true) e there
    ]

pub returns-clause-extra : goal.returns-clause-extra
returns-clause-extra c is = (let wrong : false ≡ true = only 9384 ((is.reached 9384).1 (1, lit< tt, refl)) in cc)
