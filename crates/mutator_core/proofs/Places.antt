-- No held object has a word where a mutator may write an object.
use Rattle.std.proofs.Common.{◌≡◌, sym, ◌∙◌, ap, subst, ℕ, ◌+◌, ◌/◌, ◌%◌, ◌<◌, ◌≤◌, ◌⊎◌, inl, inr, arith}
use Rattle.std.specs.List.{Contains}
use Rattle.std.proofs.lemmas.Bool.{cases_lt}
use Rattle.heap_layout.specs.Zones.{heap_of, block_at, offset_at}
use Rattle.object_model.specs.Objects.{HeapState, word_at, IsHeld, IsInExtent, size_at, size_of, block_word, owner_at}
use Rattle.sessions.proofs.Holes.{hole-clear}
use Rattle.mutator_core.specs.Machine.{Epoch, heap_in, Machine}
use Rattle.mutator_core.specs.Guards.{IsPlaceOfMutator, IsAvailable}
use Rattle.mutator_core.specs.Epochs.{EpochMayBegin, IsInEpoch, IsMade, IsOwned}
use Rattle.mutator_core.proofs.Fills.{owned-owner}

-- the extent of an object held as the epoch began is unchanged
pub extent-then : (p : Epoch) (h : Machine) → IsInEpoch p (heap_in p h) h.locals → (x i : ℕ) → IsHeld p.before x → IsInExtent (heap_in p h) x i → IsInExtent p.before x i
extent-then p h now x i before inside =
    let shape : word_at (heap_in p h) (x + 1) ≡ word_at p.before (x + 1) = (now.stays x before).1 1 (omega arith) in
    let size : size_at (heap_in p h) x ≡ size_at p.before x = ap (λ v. size_of (v % 65536) (v / 65536)) shape in
    record { from = inside.from; below = subst (λ (n : ℕ). i < x + n) size inside.below }

-- the mutator of a place owns its block
pub place-owner : (p : Epoch) (h : Machine) → IsInEpoch p (heap_in p h) h.locals → (m a size : ℕ) → IsPlaceOfMutator p (h.locals m).owned a size
    → (owner_at (heap_in p h) (block_at p.before.blocks a) ≡ m) × (0 < m)
place-owner p h now m a size place =
    let is : IsOwned p (heap_in p h) (h.locals m).number place.owned = (now.knows m).owned place.owned place.among in
    (sym (ap (owner_at (heap_in p h)) place.here) ∙ owned-owner p (heap_in p h) (h.locals m).number place.owned is ∙ now.numbers m, subst (λ (q : ℕ). 0 < q) (now.numbers m) is.somebody)

-- a block without an owner has the block word that it had
pub unowned-word : (p : Epoch) (h : Machine) → IsInEpoch p (heap_in p h) h.locals → (k : ℕ) → k < p.before.blocks → owner_at (heap_in p h) k ≡ 0 → block_word (heap_in p h) k ≡ block_word p.before k
unowned-word p h now k there nobody = elim (now.blocks k there) as (λ _. block_word (heap_in p h) k ≡ block_word p.before k) [
  | inl same ↦ same
  | inr owned ↦ absurd (
      let is : IsOwned p (heap_in p h) (h.locals owned.0).number owned.1 = (now.knows owned.0).owned owned.1 owned.2 in
      let some : 0 < (h.locals owned.0).number = is.somebody in
      let none : (h.locals owned.0).number ≡ 0 = sym (owned-owner p (heap_in p h) (h.locals owned.0).number owned.1 is) ∙ ap (owner_at (heap_in p h)) owned.3 ∙ nobody in
      omega arith)
]

module _ (p : Epoch) (ready : EpochMayBegin p) (h : Machine) (now : IsInEpoch p (heap_in p h) h.locals)
    (m a size : ℕ) (available : IsAvailable p (h.locals m).owned (h.locals m).made a size) where
  abbrev s : HeapState
  s = heap_in p h

  place : IsPlaceOfMutator p (h.locals m).owned a size
  place = available.place

  -- a word of the place is one of its block
  in-block : (i : ℕ) → a ≤ i → i < a + size → (block_at s.blocks i ≡ block_at s.blocks a) × (offset_at s.blocks a ≤ offset_at s.blocks i) × (offset_at s.blocks i < offset_at s.blocks a + size)
  in-block i from below =
      let base : heap_of p.before.blocks ≤ a = place.address.from in
      let inside : offset_at p.before.blocks a + size ≤ 4096 = place.inside in
      (omega arith, omega arith, omega arith)

  old-object : (x i : ℕ) → IsHeld p.before x → IsInExtent p.before x i → a ≤ i → i < a + size → ⊥
  old-object x i before inside from below =
      let b = in-block i from below in
      elim place.hole as (λ _. ⊥) [
        | inl free ↦ (ready.lawful.but_lines.free (block_at p.before.blocks a) free).empty x i before inside b.0
        | inr hole ↦ hole-clear p.rules.fill p.before (block_at p.before.blocks a) (offset_at p.before.blocks a) size x i ready.lawful.but_lines.order (ready.lawful.lines (block_at p.before.blocks a))
            hole before inside b.0 b.1 b.2
      ]

  -- an object that a mutator allocated in this epoch has no word of the place
  new-object : (x i k : ℕ) → Contains (h.locals k).made (record { address = x; size = size_at s x }) → IsInExtent s x i → a ≤ i → i < a + size → ⊥
  new-object x i k made inside from below =
      let is : IsMade p s (h.locals k).owned (record { address = x; size = size_at s x }) = (now.knows k).objects (record { address = x; size = size_at s x }) made in
      let b = in-block i from below in
      let base : heap_of p.before.blocks ≤ x = is.place.address.from in
      let within : offset_at p.before.blocks x + size_at s x ≤ 4096 = is.place.inside in
      let start : x ≤ i = inside.from in
      let end : i < x + size_at s x = inside.below in
      let same_block : block_at p.before.blocks i ≡ block_at p.before.blocks a = b.0 in
      let here : block_at p.before.blocks x ≡ block_at p.before.blocks a = omega arith in
      let who : k ≡ m = sym (place-owner p h now k x (size_at s x) is.place).0 ∙ ap (owner_at s) here ∙ (place-owner p h now m a size place).0 in
      elim (available.beside (record { address = x; size = size_at s x }) (subst (λ (q : ℕ). Contains (h.locals q).made (record { address = x; size = size_at s x })) who made)) as (λ _. ⊥) [
        | inl before ↦ omega arith
        | inr beyond ↦ omega arith
      ]

  pub place-clear : (x i : ℕ) → IsHeld s x → IsInExtent s x i → (i < a) ⊎ (a + size ≤ i)
  place-clear x i holds inside = elim (cases_lt i a) as (λ _. (i < a) ⊎ (a + size ≤ i)) [
    | inl less ↦ inl less
    | inr from ↦ elim (cases_lt i (a + size)) as (λ _. (i < a) ⊎ (a + size ≤ i)) [
      | inr past ↦ inr past
      | inl below ↦ elim (now.births x holds) as (λ _. (i < a) ⊎ (a + size ≤ i)) [
        | inl before ↦ absurd (old-object x i before (extent-then p h now x i before inside) from below)
        | inr allocated ↦ absurd (new-object x i allocated.0 allocated.1 inside from below)
      ]
    ]
  ]
