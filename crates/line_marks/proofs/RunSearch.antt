-- Runs of clear bits.
use Rattle.std.proofs.Common.{◌≡◌, sym, ◌∙◌, ap, ℕ, ◌+◌, ◌-◌, ◌<◌, ◌≤◌, ◌⊎◌, inl, inr, arith, true, false, List, length}
use Rattle.std.proofs.lemmas.Bool.{cases_lt, cases_eq, cases_Bool, true≢false}
use Rattle.line_marks.specs.Bits.{bit_in, IsFirstBit, HasNoBit, IsRunEnd, IsClearFrom, IsFirstClearRun, HasNoClearRun}

-- the state of a search for a run at bit `at`: no run with room begins before `at` or continues across it
pub record IsSearched (words : List ℕ) (from needed at : ℕ) : Type 0 where
  pub after : from ≤ at
  pub starts : (at ≡ from) ⊎ ((0 < at) × (at < 256 → bit_in words at ≡ true))
  pub none : (y : ℕ) → from ≤ y → y < at → IsClearFrom words y needed → ⊥

module _ (words : List ℕ) (four : length words ≡ 4) (from needed at : ℕ) (some : 1 ≤ needed) (searched : IsSearched words from needed at)
    (x : ℕ) (found : IsFirstBit words false at x) (end : ℕ) (run : IsRunEnd words x end) where
  -- bits from `at` up to x are set
  set-before : (m : ℕ) → at ≤ m → m < x → bit_in words m ≡ true
  set-before m past below = elim (cases_Bool (bit_in words m)) as (λ _. bit_in words m ≡ true) [ inl is ↦ is | inr is ↦ absurd (found.others m past below is) ]

  -- no run with room begins before x
  none-before : (y : ℕ) → from ≤ y → y < x → IsClearFrom words y needed → ⊥
  none-before y past below clear = elim (cases_lt y at) as (λ _. ⊥) [
    | inl less ↦ searched.none y past less clear
    | inr there ↦ true≢false (sym (set-before y there below) ∙ clear.clear y (omega arith) (omega arith))
  ]

  begins : (x ≡ from) ⊎ ((0 < x) × (bit_in words (x - 1) ≡ true))
  begins = elim (cases_eq at x) as (λ _. (x ≡ from) ⊎ ((0 < x) × (bit_in words (x - 1) ≡ true))) [
    | inr other ↦ (let past = found.after in inr (omega arith, set-before (x - 1) (omega arith) (omega arith)))
    | inl e ↦ elim searched.starts as (λ _. (x ≡ from) ⊎ ((0 < x) × (bit_in words (x - 1) ≡ true))) [
      | inl first ↦ inl (omega arith)
      | inr set ↦ (let inside = found.inside in absurd (true≢false (sym (set.1 (omega arith)) ∙ ap (bit_in words) e ∙ found.is)))
    ]
  ]

  pub run-found : x + needed ≤ end → IsFirstClearRun words from needed x end
  run-found room = record {
    after = (let past = found.after in let more = searched.after in omega arith);
    room = room;
    inside = run.inside;
    clear = run.clear;
    begins = begins;
    ends = run.set;
    first = none-before;
  }

  pub searched-more : end < x + needed → IsSearched words from needed end
  searched-more short = record {
    after = (let past = found.after in let more = searched.after in let after = run.after in omega arith);
    starts = (let after = run.after in inr (omega arith, run.set));
    none = λ y past below clear. elim (cases_lt y x) as (λ _. ⊥) [
      | inl less ↦ none-before y past less clear
      | inr there ↦ elim (cases_lt end 256) as (λ _. ⊥) [
        | inl less ↦ true≢false (sym (run.set less) ∙ clear.clear end (omega arith) (omega arith))
        | inr whole ↦ (let inside = clear.inside in let most = run.inside in omega arith)
      ]
    ];
  }

pub none-found : (words : List ℕ) (from needed at : ℕ) → length words ≡ 4 → 1 ≤ needed → IsSearched words from needed at → HasNoBit words false at → HasNoClearRun words from needed
none-found words from needed at four some searched none y past clear = elim (cases_lt y at) as (λ _. ⊥) [
  | inl less ↦ searched.none y past less clear
  | inr there ↦ (let inside = clear.inside in none y there (omega arith) (clear.clear y (omega arith) (omega arith)))
]
