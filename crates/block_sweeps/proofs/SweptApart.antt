-- Objects that a sweep leaves share no word, as before it.
use Rattle.std.proofs.Common.{◌≡◌, inl, inr, ap, subst, ℕ, ◌+◌, ◌/◌, ◌%◌, ◌<◌, ◌≤◌, List, slice_index, arith}
use Rattle.heap_layout.specs.Zones.{heap_of, block_at}
use Rattle.heap_layout.specs.declared.layout.Layout.{Layout}
use Rattle.object_model.specs.Objects.{HeapState, state_over, IsHeld, size_at, IsInExtent}
use Rattle.object_model.specs.Ages.{Lives}
use Rattle.object_model.specs.Releasing.{IsReleasable}
use Rattle.block_sweeps.specs.Sweeping.{AreApart, Sweeps}

-- the objects of a block that may be released share no word
pub releasable-apart : (s : HeapState) (k : ℕ) → IsReleasable s k → AreApart s k
releasable-apart s k may = λ a x i held held' here here'.
    may.apart a x i (record { address = held.address; block = inl here }) (record { address = held'.address; block = inl here' }) held held'

module _ (l : Layout) (k : ℕ) (old mid : List ℕ) (base after : ℕ) (there : k < l.blocks) (sweep : Sweeps base after (state_over old l 0 0) (state_over mid l 0 0) k) where
  abbrev s : HeapState
  s = state_over old l 0 0

  abbrev t : HeapState
  t = state_over mid l 0 0

  heap-word : (i : ℕ) → heap_of l.blocks ≤ i → slice_index mid i ≡ slice_index old i
  heap-word i from = sweep.rest.others i (λ word. elim word as (λ _. ⊥) [
    | inl either ↦ elim either as (λ _. ⊥) [ inl at ↦ omega arith | inr line ↦ (let x = line.below in omega arith) ]
    | inr mark ↦ elim mark as (λ _. ⊥) [
      | inl start ↦ (let x = start.below in omega arith)
      | inr more ↦ elim more as (λ _. ⊥) [ inl pin ↦ (let x = pin.below in omega arith) | inr unlog ↦ (let x = unlog.below in omega arith) ]
    ]
  ])

  lived : (a : ℕ) → IsHeld t a → block_at l.blocks a ≡ k → Lives base s a
  lived a held here = (sweep.objects.held a (record { address = held.address; block = here })).0 held

  size-same : (a : ℕ) → IsHeld t a → size_at t a ≡ size_at s a
  size-same a held = ap (λ n. 3 + n % 65536 + n / 65536) (heap-word (a + 1) (let from = held.address.from in omega arith))

  extent-then : (a i : ℕ) → IsHeld t a → IsInExtent t a i → IsInExtent s a i
  extent-then a i held inside = record { from = inside.from; below = subst (λ n. i < a + n) (size-same a held) inside.below }

  pub swept-apart : IsReleasable s k → AreApart t k
  swept-apart may a x i held held' here here' inside inside' =
      releasable-apart s k may a x i (lived a held here).held (lived x held' here').held here here' (extent-then a i held inside) (extent-then x i held' inside')
