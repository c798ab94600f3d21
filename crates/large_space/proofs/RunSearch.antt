-- The search for a run of Free blocks.
use Rattle.std.proofs.Common.{◌≡◌, ◌≢◌, sym, subst, ℕ, ◌+◌, ◌-◌, ◌%◌, ◌<◌, ◌≤◌, inl, inr, arith}
use Rattle.std.proofs.lemmas.Bool.{cases_lt, cases_eq}
use Rattle.heap_layout.specs.declared.block.Kind.TheVariants as kinds
use Rattle.object_model.specs.Objects.{HeapState, block_word, HasKind}
use Rattle.object_model.specs.Lawful.{FreeBlockIsClear, IsClear}
use Rattle.object_model.proofs.OneKind.{kind-code, kind-from}
use Rattle.sessions.specs.Fitting.{IsFreeRun}
use Rattle.large_space.specs.FreeRuns.{IsFirstRun, HasNoRun}

-- the blocks before `block` were looked at: those from `from` on are Free, and no run begins before
pub record IsScanned (s : HeapState) (count from block : ℕ) : Type 0 where
  pub order : from ≤ block
  pub few : block < from + count
  pub free : (j : ℕ) → from ≤ j → j < block → HasKind s j kinds.Free
  pub none : (j : ℕ) → j < from → IsFreeRun s j count → ⊥

module _ (s : HeapState) (count from block : ℕ) (some : 1 ≤ count) (scanned : IsScanned s count from block) where
  pub used-block : block_word s block % 256 ≢ 0 → IsScanned s count (block + 1) (block + 1)
  used-block used = record {
    order = omega arith;
    few = omega arith;
    free = λ j after before. absurd (omega arith);
    none = λ j before run. elim (cases_lt j from) as (λ _. ⊥) [
      | inl less ↦ scanned.none j less run
      | inr more ↦ (let few : block < from + count = scanned.few in
          let here : HasKind s (j + (block - j)) kinds.Free = run.free (block - j) (omega (arith, few, more, before)) in
          let code = kind-code s block kinds.Free (subst (λ (b : ℕ). HasKind s b kinds.Free) (let e : j + (block - j) ≡ block = omega (arith, before) in e) here) in
          used code)
    ];
  }

  module _ (there : block < s.blocks) (is : block_word s block % 256 ≡ 0) where
    all-free : (j : ℕ) → from ≤ j → j < block + 1 → HasKind s j kinds.Free
    all-free j after before = elim (cases_eq j block) as (λ _. HasKind s j kinds.Free) [
      | inl same ↦ subst (λ (b : ℕ). HasKind s b kinds.Free) (sym same) (kind-from s block kinds.Free there is)
      | inr other ↦ scanned.free j after (omega (arith, before, other))
    ]

    pub free-block : block + 1 - from ≢ count → IsScanned s count from (block + 1)
    free-block short = record {
      order = (let order = scanned.order in omega (arith, order));
      few = (let few = scanned.few in let order = scanned.order in omega (arith, few, order, short));
      free = all-free;
      none = scanned.none;
    }

    pub run-found : block + 1 - from ≡ count → IsFirstRun s from count
    run-found whole = record {
      run = record {
        inside = (let order = scanned.order in omega (arith, order, whole, there));
        free = λ j less. all-free (from + j) (omega arith) (let order = scanned.order in omega (arith, order, whole, less));
      };
      first = λ j run. elim (cases_lt j from) as (λ _. from ≤ j) [
        | inl less ↦ absurd (scanned.none j less run)
        | inr more ↦ more
      ];
    }

pub no-run : (s : HeapState) (count from block : ℕ) → IsScanned s count from block → s.blocks ≤ block → HasNoRun s count
no-run s count from block scanned all k run = elim (cases_lt k from) as (λ _. ⊥) [
  | inl less ↦ scanned.none k less run
  | inr more ↦ (let inside : k + count ≤ s.blocks = run.inside in let few : block < from + count = scanned.few in omega (arith, inside, few, more, all))
]

pub clear-run : (s : HeapState) (k count : ℕ) → IsFirstRun s k count → ((j : ℕ) → FreeBlockIsClear s j) → (j : ℕ) → j < count → IsClear s (k + j)
clear-run s k count found all j less = all (k + j) (found.run.free j less)
