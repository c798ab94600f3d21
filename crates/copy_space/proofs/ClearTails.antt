-- No held object has a word in a tail.
use Rattle.std.proofs.Common.{◌≡◌, sym, subst, ℕ, ◌+◌, ◌-◌, ◌/◌, ◌<◌, ◌≤◌, inl, inr, arith}
use Rattle.std.proofs.lemmas.Bool.{cases_lt, cases_eq}
use Rattle.heap_layout.specs.Zones.{block_at, offset_at, block_start}
use Rattle.heap_layout.specs.declared.block.Kind.TheVariants as kinds
use Rattle.object_model.specs.Objects.{HeapState, HasKind, IsHeld, IsInExtent, size_at}
use Rattle.object_model.specs.Lawful.{Lies}
use Rattle.object_model.proofs.ObjectReads.{place_of_address}
use Rattle.sessions.specs.Fitting.{IsTail}
use Rattle.copy_space.specs.LastOffsets.{HasNoWordFrom}

module _ (s : HeapState) (k at : ℕ) (tail : IsTail s k at) (not-head : HasKind s k kinds.LargeHead → ⊥) (not-tail : HasKind s k kinds.LargeTail → ⊥)
    (a i : ℕ) (held : IsHeld s a) (lies : Lies s a (size_at s a)) (inside : IsInExtent s a i) (here : block_at s.blocks i ≡ k) where
  abbrev size : ℕ
  size = size_at s a

  from : a ≤ i
  from = inside.from

  below : i < a + size
  below = inside.below

  large-not : 2048 < size → ⊥
  large-not large =
      let run = lies.large large in
      let place = place_of_address s.blocks a held.address in
      let q : ℕ = block_at s.blocks a in
      let first : offset_at s.blocks a ≡ 0 = run.start in
      let before : q ≤ k = omega arith in
      let within : k < q + (size + 4095) / 4096 = omega arith in
      elim (cases_eq q k) as (λ _. ⊥) [
        | inl same ↦ not-head (subst (λ (b : ℕ). HasKind s b kinds.LargeHead) same run.run.head)
        | inr other ↦
            let later : HasKind s (q + (k - q)) kinds.LargeTail = run.run.tails (k - q) (omega (arith, before, other)) (omega (arith, before, within)) in
            not-tail (subst (λ (b : ℕ). HasKind s b kinds.LargeTail) (let e : q + (k - q) ≡ k = omega (arith, before) in e) later)
      ]

  small-before : size ≤ 2048 → offset_at s.blocks i < at
  small-before small =
      let place = place_of_address s.blocks a held.address in
      let within : offset_at s.blocks a + size ≤ 4096 = (lies.small small).within in
      let same : block_at s.blocks a ≡ k = omega arith in
      let after : offset_at s.blocks a + size ≤ at = tail.after a held same in
      omega arith

  word-before : offset_at s.blocks i < at
  word-before = elim (cases_lt 2048 size) as (λ _. offset_at s.blocks i < at) [ inl large ↦ absurd (large-not large) | inr small ↦ small-before small ]

pub clear-from : (s : HeapState) (k at : ℕ) → IsTail s k at → (HasKind s k kinds.LargeHead → ⊥) → (HasKind s k kinds.LargeTail → ⊥)
    → ((a : ℕ) → IsHeld s a → Lies s a (size_at s a)) → HasNoWordFrom s k at
clear-from s k at tail not-head not-tail lie a i held inside here = word-before s k at tail not-head not-tail a i held (lie a held) inside here
