-- No held object has a word of a run of Free blocks.
use Rattle.std.proofs.Common.{◌≡◌, sym, ◌∙◌, subst, ℕ, ◌+◌, ◌*◌, ◌-◌, ◌/◌, ◌<◌, ◌≤◌, inl, inr, arith}
use Rattle.std.proofs.lemmas.Bool.{cases_lt, true≢false}
use Rattle.heap_layout.specs.Zones.{block_at, offset_at, block_start}
use Rattle.heap_layout.specs.declared.block.Kind.TheVariants as kinds
use Rattle.object_model.specs.Objects.{HeapState, HasKind, IsHeld, size_at, IsInExtent, IsInExtentOf}
use Rattle.object_model.specs.Lawful.{Lies, AllLie, MeetsNoObject}
use Rattle.object_model.proofs.OneKind.{one-kind, has_small-free}
use Rattle.object_model.proofs.ObjectReads.{place_of_address}
use Rattle.sessions.specs.Fitting.{IsFreeRun}

module _ (s : HeapState) (k n : ℕ) (run : IsFreeRun s k n) (x i : ℕ) (held : IsHeld s x) (lies : Lies s x (size_at s x))
    (in-object : IsInExtent s x i) (in-run : IsInExtentOf (block_start s.blocks k) (4096 * n) i) where
  abbrev size : ℕ
  size = size_at s x

  abbrev q : ℕ
  q = block_at s.blocks x

  object-from : x ≤ i
  object-from = in-object.from

  object-below : i < x + size
  object-below = in-object.below

  -- a block of the run is Free
  free-in : (b : ℕ) → k ≤ b → b < k + n → HasKind s b kinds.Free
  free-in b after before = subst (λ (c : ℕ). HasKind s c kinds.Free) (let e : k + (b - k) ≡ b = omega (arith, after) in e) (run.free (b - k) (omega (arith, after, before)))

  large-not : 2048 < size → ⊥
  large-not large =
      let lies-in = lies.large large in
      let place = place_of_address s.blocks x held.address in
      let first : offset_at s.blocks x ≡ 0 = lies-in.start in
      elim (cases_lt q k) as (λ _. ⊥) [
        | inl before ↦
            let some : k < k + n = omega arith in
            let below : k < q + (size + 4095) / 4096 = omega arith in
            let tail : HasKind s (q + (k - q)) kinds.LargeTail = lies-in.run.tails (k - q) (omega (arith, before)) (omega (arith, before, below)) in
            let here : HasKind s k kinds.LargeTail = subst (λ (b : ℕ). HasKind s b kinds.LargeTail) (let e : q + (k - q) ≡ k = omega (arith, before) in e) tail in
            let wrong = one-kind s k kinds.LargeTail kinds.Free here (free-in k (omega arith) some) in omega (arith, wrong)
        | inr after ↦
            let within : q < k + n = omega arith in
            let wrong = one-kind s q kinds.LargeHead kinds.Free lies-in.run.head (free-in q after within) in omega (arith, wrong)
      ]

  small-not : size ≤ 2048 → ⊥
  small-not small =
      let place = place_of_address s.blocks x held.address in
      let block = lies.small small in
      let within : offset_at s.blocks x + size ≤ 4096 = block.within in
      let after : k ≤ q = omega arith in
      let before : q < k + n = omega arith in
      true≢false (sym block.kind ∙ has_small-free s q (free-in q after before))

  pub not-met : ⊥
  not-met = elim (cases_lt 2048 size) as (λ _. ⊥) [ inl large ↦ large-not large | inr small ↦ small-not small ]

pub apart-run : (s : HeapState) (k n : ℕ) → IsFreeRun s k n → AllLie s → MeetsNoObject s (block_start s.blocks k) (4096 * n)
apart-run s k n run all x i held in-object in-run = not-met s k n run x i held (all x held) in-object in-run
