-- Blocks and large runs of a row whose blocks may be released: which of them an address and an object belong to.
use Rattle.std.proofs.Common.{◌≡◌, refl, sym, ◌∙◌, subst, ℕ, ◌+◌, ◌<◌, ◌≤◌, inl, inr, arith, ◌&&◌, IsTrue, nat_lt}
use Rattle.std.specs.List.{range_with_len}
use Rattle.std.proofs.lemmas.Bool.{true≢false, cases_lt, cases_order, cases_Bool, and_parts, ltb-true}
use Rattle.std.proofs.lemmas.List.Folds.{Any-from_list_any}
use Rattle.std.proofs.lemmas.List.FromFn.{get_or-range_with_len, length-range_with_len}
use Rattle.heap_layout.specs.Zones.{block_at, offset_at, heap_of, row_words, IsAddress}
use Rattle.heap_layout.specs.declared.block.Kind.TheVariants as kinds
use Rattle.object_model.specs.Objects.{HeapState, has_kind, HasKind, class_at, IsHeld, size_at, IsInExtent, blocks_for}
use Rattle.object_model.specs.Lawful.{LiesInRun, IsRunOfBlocks, is_in_run}
use Rattle.object_model.specs.Releasing.{IsReleasable}
use Rattle.object_model.proofs.OneKind.{kind-within}
use Rattle.block_sweeps.specs.Sweeping.{IsOfSpan}
use Rattle.sessions.proofs.Tails.{small-block}
use Rattle.block_sweeps.proofs.LargeRuns.{no-head-and-tail, run-tail, object, tail-of}

-- block j is `first`, which is no tail of a large run, or a later block of the run that begins there
pub record FirstOf (s : HeapState) (j : ℕ) : Type 0 where
  pub first : ℕ
  pub there : first < s.blocks
  pub plain : HasKind s first kinds.LargeTail → ⊥
  pub of : IsOfSpan s first j

pub address-block : (b a : ℕ) → IsAddress b a → block_at b a < b
address-block b a there = let from : heap_of b ≤ a = there.from in let below : a < row_words b = there.below in omega arith

-- a tail has its head before it
pub head-of : (s : HeapState) (j : ℕ) → IsTrue (is_in_run s j) → (h : ℕ) × HasKind s h kinds.LargeHead × (h < j) × (j < h + class_at s h)
head-of s j inside =
    let some = Any-from_list_any (λ h. has_kind s h kinds.LargeHead && nat_lt j (h + class_at s h)) (range_with_len 0 j) inside in
    let both = and_parts (has_kind s some.1 kinds.LargeHead) (nat_lt j (some.1 + class_at s some.1)) some.4 in
    let few : some.0 < j = subst (λ n. some.0 < n) (length-range_with_len 0 j) some.2 in
    let at : 0 + some.0 ≡ some.1 = sym (get_or-range_with_len 0 j some.0 some.1 few) ∙ some.3 in
    (some.1, both.0, omega arith, ltb-true j (some.1 + class_at s some.1) both.1)

-- each block of the row may be released, and each tail is in a run
pub record IsToRelease (s : HeapState) : Type 0 where
  pub blocks : (k : ℕ) → k < s.blocks → IsReleasable s k
  pub tails : (k : ℕ) → HasKind s k kinds.LargeTail → IsTrue (is_in_run s k)

module _ {s : HeapState} (row : IsToRelease s) where
  pub first-of : (j : ℕ) → j < s.blocks → FirstOf s j
  first-of j there = elim (cases_Bool (has_kind s j kinds.LargeTail)) as (λ _. FirstOf s j) [
    | inl tail ↦ (let d = head-of s j (row.tails j tail) in
        record { first = d.0; there = kind-within s d.0 kinds.LargeHead d.1; plain = no-head-and-tail s d.0 d.1; of = inr (d.1, d.2, d.3) })
    | inr other ↦ record { first = j; there = there; plain = λ tail. true≢false (sym tail ∙ other); of = inl refl }
  ]

  -- Where a run of blocks begins in block k, a later block of it is no tail of a run that begins elsewhere.
  same-head : (h k j n : ℕ) → HasKind s h kinds.LargeHead → h < j → j < h + class_at s h → IsRunOfBlocks s k n → k ≤ j → j < k + n → k ≡ h
  same-head h k j n head past below run from inside = elim (cases_order k h) as (λ _. k ≡ h) [
    | inl e ↦ e
    | inr differ ↦ elim differ as (λ _. k ≡ h) [
      | inl before ↦ absurd (no-head-and-tail s h head (run-tail s k h n run before (omega arith)))
      | inr behind ↦ absurd (no-head-and-tail s k run.head (tail-of s row.blocks h k head behind (omega arith)))
    ]
  ]

  -- An object has a word only in blocks of the span that it begins in.
  pub begins-in : (h x i : ℕ) → (HasKind s h kinds.LargeTail → ⊥) → IsHeld s x → IsInExtent s x i → IsOfSpan s h (block_at s.blocks i) → IsOfSpan s h (block_at s.blocks x)
  begins-in h x i plain there inside of =
      let from : x ≤ i = inside.from in let below : i < x + size_at s x = inside.below in
      elim (cases_lt 2048 (size_at s x)) as (λ _. IsOfSpan s h (block_at s.blocks x)) [
        | inr small ↦ (let lies = (object s row.blocks x there).1.small small in
            subst (IsOfSpan s h) (small-block s x i (size_at s x) there.address lies.within from below) of)
        | inl large ↦ (let lies : LiesInRun s x (size_at s x) = (object s row.blocks x there).1.large large in
            let start : offset_at s.blocks x ≡ 0 = lies.start in
            let base : heap_of s.blocks ≤ x = there.address.from in
            large-begins (block_at s.blocks x) (block_at s.blocks i) (blocks_for (size_at s x)) lies.run (omega arith) (omega arith) of)
      ]
    where
      large-begins : (k j n : ℕ) → IsRunOfBlocks s k n → k ≤ j → j < k + n → IsOfSpan s h j → IsOfSpan s h k
      large-begins k j n run from below of = elim of as (λ _. IsOfSpan s h k) [
        | inl e ↦ elim (cases_lt k j) as (λ _. IsOfSpan s h k) [
          | inl past ↦ absurd (plain (subst (λ q. HasKind s q kinds.LargeTail) e (run-tail s k j n run past below)))
          | inr same ↦ inl (omega arith)
        ]
        | inr later ↦ inl (same-head h k j n later.0 later.1 later.2 run from below)
      ]
