-- The blocks in use after a collection that evacuates each block are few.
use Rattle.std.proofs.Common.{◌≡◌, ◌≢◌, refl, sym, ◌∙◌, ap, subst, ℕ, ◌+◌, ◌-◌, ◌%◌, ◌<◌, ◌≤◌, ◌⊎◌, inl, inr, arith, Bool, false, ◌&&◌, ◌||◌, IsTrue, nat_eq, nat_lt, List, length, true≢false}
use Rattle.std.specs.Prelude.{count_by}
use Rattle.std.specs.List.{range_with_len}
use Rattle.std.proofs.lemmas.Bool.{cases_eq, cases_Bool, and_from, or_cases, or_left, or_right, eq-eqb, lt-ltb}
use Rattle.heap_layout.specs.declared.block.Kind.{Kind}
use Rattle.heap_layout.specs.declared.block.Kind.TheVariants as kinds
use Rattle.object_model.specs.declared.collect.Collect.{Collect}
use Rattle.object_model.specs.Counting.{kind_count}
use Rattle.object_model.specs.Objects.{HeapState, has_kind, HasKind}
use Rattle.object_model.specs.Times.{one_if, times}
use Rattle.object_model.proofs.OneKind.{kind-code, kind-from}
use Rattle.sessions.specs.Plans as plans
use Rattle.sessions.specs.Plans.{Plan, rules_of}
use Rattle.sessions.specs.Fitting.{used_of}
use Rattle.sessions.specs.Collecting.{BlockAfter, IsEmptied}
use Rattle.plan_api.proofs.EvacuationLaws.{none-large, immix-kept}
use Rattle.collector.specs.Collected.{EvacuatesAll}
use Rattle.collector.proofs.NumberSums.{sum-ones, sum-times}
use Rattle.collector.proofs.TallySums.{sum_over, sum-both}
use Rattle.collector.proofs.EvacuatedKinds.{copied-kind}

-- each block is Free or large, or is counted
module _ (s : HeapState) (full : ℕ → Bool) (last : List ℕ) where
  abbrev is_large : ℕ → Bool
  is_large k = has_kind s k kinds.LargeHead || has_kind s k kinds.LargeTail

  abbrev IsCounted : ℕ → Type 0
  IsCounted k = IsTrue (has_kind s k kinds.Free) ⊎ (IsTrue (is_large k) ⊎ (IsTrue (full k) ⊎ ((0 < times k last) ⊎ HasKind s k kinds.Kept)))

  abbrev three : ℕ → ℕ
  three k = one_if (full k) + (times k last + one_if (has_kind s k kinds.Kept))

  abbrev four : ℕ → ℕ
  four k = one_if (is_large k) + three k

  abbrev all : ℕ → ℕ
  all k = one_if (has_kind s k kinds.Free) + four k

  at-least-one : (k : ℕ) → IsCounted k → 1 ≤ all k
  at-least-one k (inl free) = let one : one_if (has_kind s k kinds.Free) ≡ 1 = ap one_if free in omega arith
  at-least-one k (inr (inl large)) = let one : one_if (is_large k) ≡ 1 = ap one_if large in omega arith
  at-least-one k (inr (inr (inl is))) = let one : one_if (full k) ≡ 1 = ap one_if is in omega arith
  at-least-one k (inr (inr (inr (inl some)))) = omega arith
  at-least-one k (inr (inr (inr (inr kept)))) = let one : one_if (has_kind s k kinds.Kept) ≡ 1 = ap one_if kept in omega arith

  pub used-few : ((k : ℕ) → k < s.blocks → IsCounted k) → used_of s ≤ count_by full (range_with_len 0 s.blocks) + (length last + kind_count s kinds.Kept)
  used-few each =
      let b : ℕ = s.blocks in
      let ones : b ≤ sum_over all 0 b = sum-ones all 0 b (λ k from below. at-least-one k (each k (omega arith))) in
      let first : sum_over all 0 b ≡ sum_over (λ k. one_if (has_kind s k kinds.Free)) 0 b + sum_over four 0 b = sum-both (λ k. one_if (has_kind s k kinds.Free)) four 0 b in
      let second : sum_over four 0 b ≡ sum_over (λ k. one_if (is_large k)) 0 b + sum_over three 0 b = sum-both (λ k. one_if (is_large k)) three 0 b in
      let third : sum_over three 0 b ≡ sum_over (λ k. one_if (full k)) 0 b + sum_over (λ k. times k last + one_if (has_kind s k kinds.Kept)) 0 b
      = sum-both (λ k. one_if (full k)) (λ k. times k last + one_if (has_kind s k kinds.Kept)) 0 b in
      let fourth : sum_over (λ k. times k last + one_if (has_kind s k kinds.Kept)) 0 b ≡ sum_over (λ k. times k last) 0 b + sum_over (λ k. one_if (has_kind s k kinds.Kept)) 0 b
      = sum-both (λ k. times k last) (λ k. one_if (has_kind s k kinds.Kept)) 0 b in
      let lasts : sum_over (λ k. times k last) 0 b ≤ length last = sum-times last 0 b in
      let free : sum_over (λ k. one_if (has_kind s k kinds.Free)) 0 b ≡ kind_count s kinds.Free = refl in
      let large : sum_over (λ k. one_if (is_large k)) 0 b ≡ count_by is_large (range_with_len 0 b) = refl in
      let many : sum_over (λ k. one_if (full k)) 0 b ≡ count_by full (range_with_len 0 b) = refl in
      let kept : sum_over (λ k. one_if (has_kind s k kinds.Kept)) 0 b ≡ kind_count s kinds.Kept = refl in
      let used : used_of s ≡ b - count_by is_large (range_with_len 0 b) - kind_count s kinds.Free = refl in
      omega arith

-- a worker took block k, and it is none of these last ones
abbrev pub is_left : (ℕ → ℕ) → List ℕ → ℕ → Bool
is_left taken last k = nat_lt 0 (taken k) && nat_eq (times k last) 0

-- what became of the blocks of a heap that are each Free, large or evacuated
module _ (q : Plan) (copies : (rules_of q).reserve ≡ plans.Copies) (c : Collect) (old new : HeapState) (same : new.blocks ≡ old.blocks)
    (after : (k : ℕ) → k < old.blocks → BlockAfter (rules_of q) c old new k) (each : EvacuatesAll (rules_of q) c old)
    (taken : ℕ → ℕ) (frees : (k : ℕ) → HasKind old k kinds.Free → taken k ≡ 0 → HasKind new k kinds.Free) (last : List ℕ) where
  module _ (k : ℕ) (there : k < old.blocks) (used : has_kind new k kinds.Free ≡ false) where
    filled : IsEmptied new k → ⊥
    filled empty = true≢false (sym ((after k there).emptied empty) ∙ used)

    taken-counted : HasKind old k kinds.Free → IsCounted new (is_left taken last) last k
    taken-counted free = elim (cases_eq (taken k) 0) as (λ _. IsCounted new (is_left taken last) last k) [
      | inl none ↦ absurd (true≢false (sym (frees k free none) ∙ used))
      | inr some ↦ elim (cases_eq (times k last) 0) as (λ _. IsCounted new (is_left taken last) last k) [
        | inl left ↦ (let differ : taken k ≢ 0 = some in
            inr (inr (inl (and_from (nat_lt 0 (taken k)) (nat_eq (times k last) 0) (lt-ltb 0 (taken k) (omega arith)) (eq-eqb (times k last) 0 left)))))
        | inr among ↦ (let differ : times k last ≢ 0 = among in inr (inr (inr (inl (omega arith)))))
      ]
    ]

    same-kind : (kind : Kind) → (HasKind old k kinds.Free → ⊥) → IsTrue (has_kind old k kinds.LargeHead || has_kind old k kinds.LargeTail) → HasKind old k kind → HasKind new k kind
    same-kind kind some large is = kind-from new k kind (subst (λ b. k < b) (sym same) there)
        (ap (λ w. w % 256) ((after k there).others filled some (λ from. absurd (none-large q c old k from large))) ∙ kind-code old k kind is)

    large-counted : (HasKind old k kinds.Free → ⊥) → IsTrue (has_kind old k kinds.LargeHead || has_kind old k kinds.LargeTail) → IsCounted new (is_left taken last) last k
    large-counted some large = inr (inl (elim (or_cases (has_kind old k kinds.LargeHead) (has_kind old k kinds.LargeTail) large) as (λ _. IsTrue (has_kind new k kinds.LargeHead || has_kind new k kinds.LargeTail)) [
      | inl head ↦ or_left (has_kind new k kinds.LargeHead) (has_kind new k kinds.LargeTail) (same-kind kinds.LargeHead some large head)
      | inr tail ↦ or_right (has_kind new k kinds.LargeHead) (has_kind new k kinds.LargeTail) (same-kind kinds.LargeTail some large tail)
    ]))

    counted : IsCounted new (is_left taken last) last k
    counted = elim (cases_Bool (has_kind old k kinds.Free)) as (λ _. IsCounted new (is_left taken last) last k) [
      | inl free ↦ taken-counted free
      | inr taken-before ↦ (let some : HasKind old k kinds.Free → ⊥ = λ free. true≢false (sym free ∙ taken-before) in
          elim (each k there) as (λ _. IsCounted new (is_left taken last) last k) [
            | inl free ↦ absurd (some free)
            | inr (inl large) ↦ large-counted some large
            | inr (inr from) ↦ inr (inr (inr (inr ((after k there).kept filled from (λ immix. immix-kept old k immix (copied-kind old k q c copies from)) some))))
          ])
    ]

  pub used-most : used_of new ≤ count_by (is_left taken last) (range_with_len 0 new.blocks) + (length last + kind_count new kinds.Kept)
  used-most = used-few new (is_left taken last) last (λ k below. elim (cases_Bool (has_kind new k kinds.Free)) as (λ _. IsCounted new (is_left taken last) last k) [
    | inl free ↦ inl free
    | inr used ↦ counted k (subst (λ b. k < b) same below) used
  ])
