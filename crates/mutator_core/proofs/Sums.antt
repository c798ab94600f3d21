-- Sums over lists of different numbers.
use Rattle.std.proofs.Common.{◌≡◌, ◌≢◌, refl, sym, ◌∙◌, ap, ℕ, ◌+◌, ◌<◌, ◌≤◌, inl, inr, arith, List, [], ◌∷◌, length, zero-add}
use Rattle.std.specs.Prelude.{sum_by}
use Rattle.std.specs.List.{Contains, AllByRecursion, range_with_len}
use Rattle.std.proofs.lemmas.Bool.{cases_eq}
use Rattle.std.proofs.lemmas.List.Sums.{sum_by-cons, count_by-le-length}
use Rattle.std.proofs.lemmas.List.FromFn.{get_or-range_with_len, length-range_with_len}
use Rattle.heap_layout.specs.declared.block.Kind.TheVariants as kinds
use Rattle.object_model.specs.Objects.{HeapState, has_kind}
use Rattle.object_model.specs.Graphs.{AreDifferent}
use Rattle.sessions.specs.Plans.{Reserve, Nothing, Copies, Headroom}
use Rattle.sessions.specs.Fitting.{allowance_of, free_of}
use Rattle.mutator_core.proofs.Lists.{contains-cases, contains-none}
use Rattle.mutator_core.proofs.Beginnings.{differ-head, differ-tail}

pub sum-all : (P : ℕ → Type 0) (f g : ℕ → ℕ) → ((k : ℕ) → P k → f k ≡ g k) → (ks : List ℕ) → AllByRecursion P ks → sum_by f ks ≡ sum_by g ks
sum-all P f g same [] all = refl
sum-all P f g same (k ∷ ks) all = sum_by-cons f k ks ∙ ap (λ n. n + sum_by f ks) (same k all.0) ∙ ap (λ n. g k + n) (sum-all P f g same ks all.1) ∙ sym (sum_by-cons g k ks)

any-number : (ks : List ℕ) → AllByRecursion (λ k. Unit {0}) ks
any-number [] = tt
any-number (k ∷ ks) = (tt, any-number ks)

pub sum-same : (f g : ℕ → ℕ) → ((k : ℕ) → f k ≡ g k) → (ks : List ℕ) → sum_by f ks ≡ sum_by g ks
sum-same f g same ks = sum-all (λ k. Unit {0}) f g (λ k any. same k) ks (any-number ks)

pub sum-le : (f g : ℕ → ℕ) → ((k : ℕ) → f k ≤ g k) → (ks : List ℕ) → sum_by f ks ≤ sum_by g ks
sum-le f g less [] = omega arith
sum-le f g less (k ∷ ks) =
    let e : sum_by f (k ∷ ks) ≡ f k + sum_by f ks = sum_by-cons f k ks in
    let e' : sum_by g (k ∷ ks) ≡ g k + sum_by g ks = sum_by-cons g k ks in
    let here : f k ≤ g k = less k in
    let rest : sum_by f ks ≤ sum_by g ks = sum-le f g less ks in
    omega arith

-- each summand is larger by at most one
pub sum-more : (f g : ℕ → ℕ) → ((k : ℕ) → f k ≤ g k + 1) → (ks : List ℕ) → sum_by f ks ≤ sum_by g ks + length ks
sum-more f g less [] = omega arith
sum-more f g less (k ∷ ks) =
    let e : sum_by f (k ∷ ks) ≡ f k + sum_by f ks = sum_by-cons f k ks in
    let e' : sum_by g (k ∷ ks) ≡ g k + sum_by g ks = sum_by-cons g k ks in
    let here : f k ≤ g k + 1 = less k in
    let rest : sum_by f ks ≤ sum_by g ks + length ks = sum-more f g less ks in
    omega arith

-- one of the summands changes
pub sum-change : (f g : ℕ → ℕ) (m : ℕ) → ((k : ℕ) → k ≢ m → g k ≡ f k) → (ks : List ℕ) → AreDifferent ks → Contains ks m → sum_by g ks + f m ≡ sum_by f ks + g m
sum-change f g m other [] differ known = absurd (contains-none m known)
sum-change f g m other (k ∷ ks) differ known =
    let e : sum_by f (k ∷ ks) ≡ f k + sum_by f ks = sum_by-cons f k ks in
    let e' : sum_by g (k ∷ ks) ≡ g k + sum_by g ks = sum_by-cons g k ks in
    elim (contains-cases k ks m known) as (λ _. sum_by g (k ∷ ks) + f m ≡ sum_by f (k ∷ ks) + g m) [
      | inl here ↦
          (let rest : sum_by g ks ≡ sum_by f ks = sum-all (λ q. q ≢ k) g f (λ q away. other q (λ e. away (e ∙ here))) ks (differ-head k ks differ) in
          let own : f k ≡ f m = ap f (sym here) in let own' : g k ≡ g m = ap g (sym here) in
          omega arith)
      | inr there ↦ elim (cases_eq k m) as (λ _. sum_by g (k ∷ ks) + f m ≡ sum_by f (k ∷ ks) + g m) [
        | inl here ↦
            (let rest : sum_by g ks ≡ sum_by f ks = sum-all (λ q. q ≢ k) g f (λ q away. other q (λ e. away (e ∙ sym here))) ks (differ-head k ks differ) in
            let own : f k ≡ f m = ap f here in let own' : g k ≡ g m = ap g here in
            omega arith)
        | inr away ↦
            (let rest : sum_by g ks + f m ≡ sum_by f ks + g m = sum-change f g m other ks (differ-tail k ks differ) there in
            let own : g k ≡ f k = other k away in
            omega arith)
      ]
    ]

pub range-differs : (n : ℕ) → AreDifferent (range_with_len 0 n)
range-differs n i j less more same =
    let many : length (range_with_len 0 n) ≡ n = length-range_with_len 0 n in
    sym (get_or-range_with_len 0 n i 0 (omega arith) ∙ zero-add i) ∙ same ∙ (get_or-range_with_len 0 n j 0 (omega arith) ∙ zero-add j)

pub range-has : (n k : ℕ) → k < n → Contains (range_with_len 0 n) k
range-has n k less = (k, (let many : length (range_with_len 0 n) ≡ n = length-range_with_len 0 n in omega arith), get_or-range_with_len 0 n k k less ∙ zero-add k)

pub free-most : (s : HeapState) → free_of s ≤ s.blocks
free-most s = let less : free_of s ≤ length (range_with_len 0 s.blocks) = count_by-le-length (λ k. has_kind s k kinds.Free) (range_with_len 0 s.blocks) in let many : length (range_with_len 0 s.blocks) ≡ s.blocks = length-range_with_len 0 s.blocks in omega arith

pub allowance-most : (reserve : Reserve) (s : HeapState) → allowance_of reserve s ≤ s.blocks
allowance-most Nothing s = let most : free_of s ≤ s.blocks = free-most s in omega arith
allowance-most Copies s = let most : free_of s ≤ s.blocks = free-most s in omega arith
allowance-most Headroom s = let most : free_of s ≤ s.blocks = free-most s in omega arith
