-- The mutator may write an object at the start of the region that it owns.
use Rattle.std.proofs.Common.{◌≡◌, sym, ◌∙◌, ap, subst, ℕ, ◌+◌, ◌/◌, ◌%◌, ◌<◌, ◌≤◌, ◌⊎◌, inl, inr, arith}
use Rattle.std.specs.List.{Contains}
use Rattle.std.proofs.lemmas.Bool.{cases_lt}
use Rattle.heap_layout.specs.Zones.{heap_of, block_start, block_at, offset_at, IsAddress}
use Rattle.heap_layout.specs.Blocks.{kind_code}
use Rattle.heap_layout.specs.declared.block.Kind.{Kind}
use Rattle.heap_layout.specs.declared.block.Kind.TheVariants as kinds
use Rattle.heap_layout.specs.declared.region.Region.{Region}
use Rattle.heap_layout.proofs.BlockLemmas.{code_parts, kind_code_most}
use Rattle.object_model.specs.Objects.{HeapState, block_word, HasKind, IsHeld, size_at, size_of}
use Rattle.object_model.proofs.OneKind.{kind-from}
use Rattle.sessions.specs.Fitting.{IsTail, HasHole, LiesInHole, LiesInTail}
use Rattle.mutator_core.specs.declared.state.Extent.{Extent}
use Rattle.mutator_core.specs.Machine.{Epoch, Machine, heap_in}
use Rattle.mutator_core.specs.Guards.{IsPlaceOfMutator, IsAvailable, BeginsRegion}
use Rattle.mutator_core.specs.Epochs.{EpochMayBegin, IsInEpoch, IsOwned, IsMade}
use Rattle.mutator_core.proofs.Fills.{fill-not-free}
use Rattle.mutator_core.proofs.Places.{place-owner}
use Rattle.block_regions.specs.Notes.{FillsTails, IsOwnedNote}
use Rattle.block_regions.proofs.Regions.{no-cells}
use Rattle.block_regions.proofs.RegionFrames.{region-tail}

module _ (fill : Kind) (fills : FillsTails fill) (s : HeapState) (k from size : ℕ) where
  pub lies-in : HasKind s k fill → LiesInTail s k from size → LiesInHole fill s k from size
  lies-in kind tail = elim fills as (λ _. LiesInHole fill s k from size) [
    | inl bump ↦ subst (λ (f : Kind). LiesInHole f s k from size) (sym bump) (subst (HasKind s k) bump kind, tail)
    | inr young ↦ subst (λ (f : Kind). LiesInHole f s k from size) (sym young) (subst (HasKind s k) young kind, tail)
  ]

  pub lies-tail : LiesInHole fill s k from size → LiesInTail s k from size
  lies-tail lies = elim fills as (λ _. LiesInTail s k from size) [
    | inl bump ↦ (subst (λ (f : Kind). LiesInHole f s k from size) bump lies).1
    | inr young ↦ (subst (λ (f : Kind). LiesInHole f s k from size) young lies).1
  ]

  pub has-hole : HasKind s k fill → IsTail s k from → from + size ≤ 4096 → HasHole fill s k from size
  has-hole kind tail room = elim fills as (λ _. HasHole fill s k from size) [
    | inl bump ↦ subst (λ (f : Kind). HasHole f s k from size) (sym bump) (subst (HasKind s k) bump kind, tail, room)
    | inr young ↦ subst (λ (f : Kind). HasHole f s k from size) (sym young) (subst (HasKind s k) young kind, tail, room)
  ]

module _ (p : Epoch) (ready : EpochMayBegin p) (fills : FillsTails p.rules.fill) (h : Machine) (now : IsInEpoch p (heap_in p h) h.locals)
    (m block a size : ℕ) (region : Region) (note : IsOwnedNote p.rules.fill (heap_in p h) block m region)
    (taken : Contains (h.locals m).owned (record { block = block; class = 0 }))
    (there : block < p.before.blocks) (some : 0 < size) (room : region.next + size ≤ 4096)
    (starts : a ≡ block_start p.before.blocks block + region.next) where
  abbrev s : HeapState
  s = heap_in p h

  tail : IsTail (heap_in p h) block region.next
  tail = (region-tail p.rules.fill (heap_in p h) block region note.left fills).tail

  pub block-is : block_at p.before.blocks a ≡ block
  block-is = let b : ℕ = p.before.blocks in omega arith

  pub offset-is : offset_at p.before.blocks a ≡ region.next
  offset-is = let b : ℕ = p.before.blocks in omega arith

  pub address : IsAddress p.before.blocks a
  address = let b : ℕ = p.before.blocks in record { from = omega arith; below = omega arith }

  owned : IsOwned p s (h.locals m).number (record { block = block; class = 0 })
  owned = (now.knows m).owned (record { block = block; class = 0 }) taken

  -- as the epoch began
  kind-before : HasKind p.before block kinds.Free ⊎ HasKind p.before block p.rules.fill
  kind-before = elim owned.before as (λ _. HasKind p.before block kinds.Free ⊎ HasKind p.before block p.rules.fill) [
    | inl free ↦ inl (kind-from p.before block kinds.Free there (ap (λ (v : ℕ). v % 256) free))
    | inr used ↦ inr (kind-from p.before block p.rules.fill there
        (code_parts (kind_code p.rules.fill) 0 0 (block_word p.before block) (kind_code_most p.rules.fill) (omega arith) (sym used)).0)
  ]

  size-then : (x : ℕ) → IsHeld p.before x → size_at s x ≡ size_at p.before x
  size-then x before = ap (λ v. size_of (v % 65536) (v / 65536)) ((now.stays x before).1 1 (omega arith))

  after-then : (x : ℕ) → IsHeld p.before x → block_at p.before.blocks x ≡ block → offset_at p.before.blocks x + size_at p.before x ≤ region.next
  after-then x before here = subst (λ (n : ℕ). offset_at p.before.blocks x + n ≤ region.next) (size-then x before) (tail.after x (now.stays x before).0 here)

  -- the tail is 0, or begins after an old object, or after one that this mutator made
  data Begins : Type 0 where
    empty : region.next ≡ 0 → Begins
    old : (x : ℕ) → IsHeld p.before x → block_at p.before.blocks x ≡ block → offset_at p.before.blocks x + size_at p.before x ≡ region.next → Begins
    made : (x : ℕ) → Contains (h.locals m).made (record { address = x; size = size_at s x }) → IsPlaceOfMutator p (h.locals m).owned x (size_at s x)
        → block_at p.before.blocks x ≡ block → offset_at p.before.blocks x + size_at s x ≡ region.next → Begins

  begins : Begins
  begins = elim tail.least as (λ _. Begins) [
    | inl none ↦ empty none
    | inr last ↦ elim (now.births last.0 last.1) as (λ _. Begins) [
      | inl before ↦ old last.0 before last.2 (ap (λ n. offset_at p.before.blocks last.0 + n) (sym (size-then last.0 before)) ∙ last.3)
      | inr allocated ↦ (
          let is : IsMade p s (h.locals allocated.0).owned (record { address = last.0; size = size_at s last.0 }) =
          (now.knows allocated.0).objects (record { address = last.0; size = size_at s last.0 }) allocated.1 in
          let who : allocated.0 ≡ m = sym (place-owner p h now allocated.0 last.0 (size_at s last.0) is.place).0 ∙ ap (λ (k : ℕ). block_word s k / 65536) last.2 ∙ note.owner in
          made last.0 (subst (λ (q : ℕ). Contains (h.locals q).made (record { address = last.0; size = size_at s last.0 })) who allocated.1)
          (subst (λ (q : ℕ). IsPlaceOfMutator p (h.locals q).owned last.0 (size_at s last.0)) who is.place) last.2 last.3)
    ]
  ]

  tail-then : (region.next ≡ 0) ⊎ ((x : ℕ) × IsHeld p.before x × (block_at p.before.blocks x ≡ block) × (offset_at p.before.blocks x + size_at p.before x ≡ region.next)) → IsTail p.before block region.next
  tail-then least = record { after = after-then; least = least }

  lies-then : HasKind p.before block p.rules.fill → Begins → LiesInTail p.before block region.next size
  lies-then kind (empty none) = record { at = region.next; tail = tail-then (inl none); after = omega arith; inside = room }
  lies-then kind (old x before here ends) = record { at = region.next; tail = tail-then (inr (x, before, here, ends)); after = omega arith; inside = room }
  lies-then kind (made x by place here ends) =
      let lies : LiesInTail p.before block (offset_at p.before.blocks x) (size_at s x) = elim place.hole as (λ _. LiesInTail p.before block (offset_at p.before.blocks x) (size_at s x)) [
        | inl free ↦ absurd (fill-not-free p.before block p.rules.fill ready.fills kind (subst (λ (k : ℕ). HasKind p.before k kinds.Free) here free))
        | inr hole ↦ lies-tail p.rules.fill fills p.before block (offset_at p.before.blocks x) (size_at s x)
            (subst (λ (k : ℕ). LiesInHole p.rules.fill p.before k (offset_at p.before.blocks x) (size_at s x)) here hole)
      ] in
      let past : lies.at ≤ offset_at p.before.blocks x = lies.after in
      record { at = lies.at; tail = lies.tail; after = omega arith; inside = room }

  hole-then : HasKind p.before block kinds.Free ⊎ LiesInHole p.rules.fill p.before block region.next size
  hole-then = elim kind-before as (λ _. HasKind p.before block kinds.Free ⊎ LiesInHole p.rules.fill p.before block region.next size) [
    | inl free ↦ inl free
    | inr kind ↦ inr (lies-in p.rules.fill fills p.before block region.next size kind (lies-then kind begins))
  ]

  abbrev Region-at : ℕ → ℕ → Type 0
  Region-at k offset = (p.rules.fill ≡ kinds.Cells) ⊎ HasHole p.rules.fill p.before k offset size ⊎ (HasKind p.before k kinds.Free × (offset ≡ 0))
      ⊎ ((x : Extent) × Contains (h.locals m).made x × (block_at p.before.blocks x.address ≡ k) × (x.address + x.size ≡ a))

  region-of : Begins → Region-at block region.next
  region-of (empty none) = elim kind-before as (λ _. Region-at block region.next) [
    | inl free ↦ inr (inr (inl (free, none)))
    | inr kind ↦ inr (inl (has-hole p.rules.fill fills p.before block region.next size kind (tail-then (inl none)) room))
  ]
  region-of (old x before here ends) = elim kind-before as (λ _. Region-at block region.next) [
    | inl free ↦ absurd ((ready.lawful.but_lines.free block free).empty x x before (record { from = omega arith; below = omega arith }) here)
    | inr kind ↦ inr (inl (has-hole p.rules.fill fills p.before block region.next size kind (tail-then (inr (x, before, here, ends))) room))
  ]
  region-of (made x by place here ends) =
      let from : heap_of p.before.blocks ≤ x = place.address.from in
      let b : ℕ = p.before.blocks in
      inr (inr (inr (record { address = x; size = size_at s x }, by, here, omega arith)))

  pub begins-region : BeginsRegion p (h.locals m).made a size
  begins-region = subst (λ (k : ℕ). Region-at k (offset_at p.before.blocks a)) (sym block-is) (subst (Region-at block) (sym offset-is) (region-of begins))

  pub available : IsAvailable p (h.locals m).owned (h.locals m).made a size
  available = record {
    place = record {
      address = address;
      inside = subst (λ (k : ℕ). k + size ≤ 4096) (sym offset-is) room;
      owned = record { block = block; class = 0 };
      among = taken;
      here = sym block-is;
      hole = subst (λ (k : ℕ). HasKind p.before k kinds.Free ⊎ LiesInHole p.rules.fill p.before k (offset_at p.before.blocks a) size) (sym block-is)
          (subst (λ (k : ℕ). HasKind p.before block kinds.Free ⊎ LiesInHole p.rules.fill p.before block k size) (sym offset-is) hole-then);
      cell = λ cells. absurd (no-cells p.rules.fill fills cells);
    };
    beside = beside;
  }
    where
      beside : (x : Extent) → Contains (h.locals m).made x → (x.address + x.size ≤ a) ⊎ (a + size ≤ x.address)
      beside x by =
          let is : IsMade p s (h.locals m).owned x = (now.knows m).objects x by in
          let from : heap_of p.before.blocks ≤ x.address = is.place.address.from in
          let inside : offset_at p.before.blocks x.address + x.size ≤ 4096 = is.place.inside in
          let b : ℕ = p.before.blocks in
          elim (cases_lt (block_at p.before.blocks x.address) block) as (λ _. (x.address + x.size ≤ a) ⊎ (a + size ≤ x.address)) [
            | inl under ↦ inl (omega arith)
            | inr from_block ↦ elim (cases_lt block (block_at p.before.blocks x.address)) as (λ _. (x.address + x.size ≤ a) ⊎ (a + size ≤ x.address)) [
              | inl above ↦ inr (omega arith)
              | inr below ↦ (
                  let here : block_at p.before.blocks x.address ≡ block = omega arith in
                  let last : offset_at p.before.blocks x.address + x.size ≤ region.next =
                  subst (λ (n : ℕ). offset_at p.before.blocks x.address + n ≤ region.next) is.same (tail.after x.address is.held here) in
                  inl (omega arith))
            ]
          ]
