-- Objects that a stop places: where, and what the heap is after it.
use Rattle.std.proofs.Common.{◌≡◌, ◌≢◌, ◌↔◌, refl, sym, ◌∙◌, ap, subst, ℕ, ◌+◌, ◌*◌, ◌/◌, ◌%◌, ◌^◌, ◌<◌, ◌≤◌, ◌⊎◌, inl, inr, arith, false, [], ◌∷◌, ◌++◌}
use Rattle.std.proofs.lemmas.Bool.{cases_eq, cases_lt, false_from_ne_true}
use Rattle.heap_layout.specs.Zones.{heap_of, block_at, offset_at, block_start, IsAddress}
use Rattle.heap_layout.specs.Blocks.{kind_code}
use Rattle.heap_layout.specs.declared.block.Kind.{Kind}
use Rattle.heap_layout.specs.declared.block.Kind.TheVariants as kinds
use Rattle.heap_layout.proofs.BlockLemmas.{kind_code_most}
use Rattle.ideal_heap.specs.declared.name.Name.{Name}
use Rattle.ideal_heap.specs.declared.command.Command.TheVariants as c
use Rattle.ideal_heap.specs.declared.reply.Reply.TheVariants as r
use Rattle.ideal_heap.specs.Names.{name_of}
use Rattle.ideal_heap.specs.Runs.{entry}
use Rattle.object_model.specs.Objects.{HeapState, word_at, global_at, block_word, HasKind, is_pinned, is_unlogged, IsHeld, name_at, refs_at, nums_at, size_at, number_at, ref_at, num_at, size_of, blocks_for}
use Rattle.object_model.proofs.ObjectReads.{place_of_address}
use Rattle.object_model.proofs.OneKind.{kind-code, kind-from, kind-within, one-kind}
use Rattle.sessions.specs.Plans.{Rules, MarkSweep, GenCopy, rules_of}
use Rattle.sessions.specs.Fitting.{class_for, HasHole, HasSomeHole}
use Rattle.sessions.specs.Sessions.{Setting, Moment, PlacesSmall, PlacesLarge, UsesBlock, UsesRun, AddsObject, ChangesBlocks, Places}
use Rattle.sessions.proofs.BirthPlaces.{hole-kind, hole-not_free}
use Rattle.sessions.proofs.EpochParts.{no-code}

-- the place of an object is determined

module _ (s : HeapState) (a x size : ℕ) (at_a : IsAddress s.blocks a) (at_x : IsAddress s.blocks x) where
  same-place : block_at s.blocks a ≡ block_at s.blocks x → offset_at s.blocks a ≡ offset_at s.blocks x → a ≡ x
  same-place block offset =
      let e : a ≡ heap_of s.blocks + 4096 * block_at s.blocks a + offset_at s.blocks a = (place_of_address s.blocks a at_a).2 in
      let f : x ≡ heap_of s.blocks + 4096 * block_at s.blocks x + offset_at s.blocks x = (place_of_address s.blocks x at_x).2 in
      omega arith

  pub one-small : (rules : Rules) → PlacesSmall rules s a size → PlacesSmall rules s x size → a ≡ x
  one-small rules one other = elim one.spot as (λ _. a ≡ x) [
    | inl hole ↦ elim other.spot as (λ _. a ≡ x) [
      | inl hole' ↦ by-holes (one.lowest (block_at s.blocks x) (offset_at s.blocks x) hole') (other.lowest (block_at s.blocks a) (offset_at s.blocks a) hole)
      | inr free' ↦ absurd (free'.2 (record { block = block_at s.blocks a; offset = offset_at s.blocks a; hole = hole }))
    ]
    | inr free ↦ elim other.spot as (λ _. a ≡ x) [
      | inl hole' ↦ absurd (free.2 (record { block = block_at s.blocks x; offset = offset_at s.blocks x; hole = hole' }))
      | inr free' ↦
          let below : block_at s.blocks a ≤ block_at s.blocks x = one.lowest_free free.0 (block_at s.blocks x) free'.0 in
          let below' : block_at s.blocks x ≤ block_at s.blocks a = other.lowest_free free'.0 (block_at s.blocks a) free.0 in
          same-place (omega arith) (free.1 ∙ sym free'.1)
    ]
  ]
    where
      by-holes : (block_at s.blocks a < block_at s.blocks x) ⊎ ((block_at s.blocks a ≡ block_at s.blocks x) × (offset_at s.blocks a ≤ offset_at s.blocks x))
          → (block_at s.blocks x < block_at s.blocks a) ⊎ ((block_at s.blocks x ≡ block_at s.blocks a) × (offset_at s.blocks x ≤ offset_at s.blocks a)) → a ≡ x
      by-holes (inl before) (inl before') = absurd (omega arith)
      by-holes (inl before) (inr same') = (let e : block_at s.blocks x ≡ block_at s.blocks a = same'.0 in absurd (omega arith))
      by-holes (inr same) (inl before') = (let e : block_at s.blocks a ≡ block_at s.blocks x = same.0 in absurd (omega arith))
      by-holes (inr same) (inr same') = same-place same.0 (let below : offset_at s.blocks a ≤ offset_at s.blocks x = same.1 in let below' : offset_at s.blocks x ≤ offset_at s.blocks a = same'.1 in omega arith)

  pub one-large : PlacesLarge s a size → PlacesLarge s x size → a ≡ x
  one-large one other =
      let below : block_at s.blocks a ≤ block_at s.blocks x = one.lowest (block_at s.blocks x) other.run in
      let below' : block_at s.blocks x ≤ block_at s.blocks a = other.lowest (block_at s.blocks a) one.run in
      same-place (omega arith) (one.start ∙ sym other.start)

-- no hole with room begins before a small object
module _ (s : HeapState) (a k size : ℕ) (at_a : IsAddress s.blocks a) (rules : Rules) (places : PlacesSmall rules s a size) where
  whole-place : a ≡ heap_of s.blocks + 4096 * block_at s.blocks a + offset_at s.blocks a
  whole-place = (place_of_address s.blocks a at_a).2

  pub before-hole : (at : ℕ) → HasHole rules.fill s k at size → a ≤ block_start s.blocks k + at
  before-hole at hole = elim (places.lowest k at hole) as (λ _. a ≤ block_start s.blocks k + at) [
    | inl before ↦ omega (arith, whole-place, before)
    | inr same ↦
        let block : block_at s.blocks a ≡ k = same.0 in
        let offset : offset_at s.blocks a ≤ at = same.1 in
        omega (arith, whole-place)
  ]

  -- and if there is none, no Free block
  pub before-free : (HasSomeHole rules.fill s size → ⊥) → HasKind s k kinds.Free → a ≤ block_start s.blocks k
  before-free none free = elim places.spot as (λ _. a ≤ block_start s.blocks k) [
    | inl hole ↦ absurd (none (record { block = block_at s.blocks a; offset = offset_at s.blocks a; hole = hole }))
    | inr there ↦
        let start : offset_at s.blocks a ≡ 0 = there.1 in
        let low : block_at s.blocks a ≤ k = places.lowest_free there.0 k free in
        omega (arith, whole-place)
  ]

-- the new object, and the others

module _ (old new : HeapState) (a refs nums : ℕ) (adds : AddsObject old new a refs nums) where
  pub added-shape : refs < 65536 → (refs_at new a ≡ refs) × (nums_at new a ≡ nums)
  added-shape few = (
    (let e : word_at new (a + 1) ≡ refs + 65536 * nums = adds.shape in omega arith),
    (let e : word_at new (a + 1) ≡ refs + 65536 * nums = adds.shape in omega arith),
  )

  added-word : (i at : ℕ) → at ≡ a + i → 2 ≤ i → i < size_of refs nums → word_at new at ≡ 0
  added-word i at e from below = subst (λ (x : ℕ). word_at new x ≡ 0) (sym e) (adds.blank i from below)

  pub added-number : number_at new a ≡ 0
  added-number = (let e : word_at new (a + 2) ≡ 0 = adds.blank 2 (omega arith) (omega arith) in ap (λ v. v / 2 ^ 24) e)

  pub added-refs : (i : ℕ) → i < refs → ref_at new a i ≡ 0
  added-refs i less = added-word (3 + i) (a + 3 + i) (omega arith) (omega arith) (omega arith)

  pub added-nums : refs < 65536 → (j : ℕ) → j < nums → num_at new a j ≡ 0
  added-nums few j less = (let e : refs_at new a ≡ refs = (added-shape few).0 in added-word (3 + refs + j) (a + 3 + refs_at new a + j) (omega arith) (omega arith) (omega arith))

  pub added-held : (x : ℕ) → IsHeld new x ↔ ((x ≡ a) ⊎ IsHeld old x)
  added-held x = (
    (λ holds. elim (cases_eq x a) as (λ _. (x ≡ a) ⊎ IsHeld old x) [ inl same ↦ inl same | inr other ↦ inr ((adds.others x other).1 holds) ]),
    (λ either. elim either as (λ _. IsHeld new x) [
      | inl same ↦ subst (IsHeld new) (sym same) adds.held
      | inr before ↦ elim (cases_eq x a) as (λ _. IsHeld new x) [ inl same ↦ subst (IsHeld new) (sym same) adds.held | inr other ↦ (adds.others x other).0 before ]
    ]),
  )

  pub added-bits : (is_pinned new a ≡ false) × (is_unlogged new a ≡ false)
  added-bits = (false_from_ne_true _ adds.unmarked.0, false_from_ne_true _ adds.unmarked.1)

  pub added-fresh : IsHeld old a → ⊥
  added-fresh = adds.fresh

  module _ (x : ℕ) (holds : IsHeld old x) where
    other-word : (i at : ℕ) → at ≡ x + i → i < size_at old x → word_at new at ≡ word_at old at
    other-word i at e below = subst (λ (y : ℕ). word_at new y ≡ word_at old y) (sym e) (adds.words x i holds below)

    pub other-name : name_at new x ≡ name_at old x
    other-name = ap name_of (other-word 0 x (omega arith) (omega arith))

    other-refs : refs_at new x ≡ refs_at old x
    other-refs = ap (λ v. v % 65536) (other-word 1 (x + 1) refl (omega arith))

    pub other-shape : (refs_at new x ≡ refs_at old x) × (nums_at new x ≡ nums_at old x)
    other-shape = (other-refs, ap (λ v. v / 65536) (other-word 1 (x + 1) refl (omega arith)))

    pub other-field : (i : ℕ) → i < refs_at old x → ref_at new x i ≡ ref_at old x i
    other-field i less = other-word (3 + i) (x + 3 + i) (omega arith) (omega arith)

    pub other-num : (j : ℕ) → j < nums_at old x → num_at new x j ≡ num_at old x j
    other-num j less =
        let e : refs_at new x ≡ refs_at old x = other-refs in
        subst (λ (q : ℕ). word_at new (x + 3 + q + j) ≡ num_at old x j) (sym e) (other-word (3 + refs_at old x + j) (x + 3 + refs_at old x + j) (omega arith) (omega arith))

    pub other-bits : (is_pinned new x ≡ is_pinned old x) × (is_unlogged new x ≡ is_unlogged old x)
    other-bits = adds.bits x holds

-- block words

pub cells-word : (old new : HeapState) (k : ℕ) → UsesBlock (rules_of MarkSweep) old new k 5 → HasKind old k kinds.Free → block_word new k ≡ 261
cells-word old new k uses free = uses.free free

pub young-word : (old new : HeapState) (k : ℕ) → UsesBlock (rules_of GenCopy) old new k 5 → HasKind old k kinds.Free → block_word new k ≡ 2
young-word old new k uses free = uses.free free

pub used-stays : (rules : Rules) (old new : HeapState) (k size : ℕ) (kind : Kind) → UsesBlock rules old new k size → HasKind old k kind → kind ≢ kinds.Free → block_word new k ≡ block_word old k
used-stays rules old new k size kind uses is other = uses.hole (λ free. other (no-code kind (one-kind old k kind kinds.Free is free)))

pub used-others : (rules : Rules) (old new : HeapState) (k j size : ℕ) → UsesBlock rules old new k size → j < old.blocks → j ≢ k → block_word new j ≡ block_word old j
used-others rules old new k j size uses there other = uses.others j there other

pub run-words : (old new : HeapState) (k : ℕ) → UsesRun old new k 3 → (block_word new k ≡ 774) × (block_word new (k + 1) ≡ 7) × (block_word new (k + 2) ≡ 7)
run-words old new k uses = (uses.head, uses.tails 1 (omega arith) (omega arith), uses.tails 2 (omega arith) (omega arith))

pub run-neighbours : (old new : HeapState) (k : ℕ) → UsesRun old new (k + 1) 2 → k + 3 < old.blocks → (block_word new k ≡ block_word old k) × (block_word new (k + 3) ≡ block_word old (k + 3))
run-neighbours old new k uses there = (uses.others k (omega arith) (inl (omega arith)), uses.others (k + 3) there (inr (omega arith)))

-- words

pub changes-globals : (old new : HeapState) (used n g : ℕ) → ChangesBlocks old new used n → new.blocks ≡ old.blocks → g < 16 → global_at new g ≡ global_at old g
changes-globals old new used n g changes same less = changes.front (2 + g) (omega arith)

pub changes-neighbours : (old new : HeapState) (k n i : ℕ) → ChangesBlocks old new (k + 1) n → IsAddress old.blocks i → (block_at old.blocks i ≡ k) ⊎ (block_at old.blocks i ≡ k + 1 + n) → word_at new i ≡ word_at old i
changes-neighbours old new k n i changes there (inl before) = changes.elsewhere i there (inl (omega arith))
changes-neighbours old new k n i changes there (inr after) = changes.elsewhere i there (inr (omega arith))

-- a `new` that is placed

module _ (t : Setting) (m d refs nums : ℕ) (before now : Moment) (places : Places t m d refs nums before now) where
  abbrev k : ℕ
  k = block_at before.heap.blocks places.place

  abbrev size : ℕ
  size = size_of refs nums

  pub placed-entry : (n : Name) × (a : ℕ) × (now.done ≡ before.done ++ entry m (c.New d refs nums) (r.New n) ∷ []) × IsHeld now.heap a × (IsHeld before.heap a → ⊥) × (name_at now.heap a ≡ n)
  placed-entry = (name_at now.heap places.place, places.place, places.done, places.object.held, places.object.fresh, refl)

  pub placed-counts : (now.nursery ≡ before.nursery) × (now.full ≡ before.full) × (now.heap.blocks ≡ before.heap.blocks) × (now.heap.number ≡ before.heap.number) × (now.heap.base ≡ before.heap.base)
  placed-counts = (places.counts.0, places.counts.1, places.layout.0, places.layout.1, places.layout.2)

  pub placed-globals : (g : ℕ) → g < 16 → global_at now.heap g ≡ global_at before.heap g
  placed-globals g less = elim (cases_lt 2048 size) as (λ _. global_at now.heap g ≡ global_at before.heap g) [
    | inl large ↦ changes-globals before.heap now.heap k (blocks_for size) g (places.large large).2 places.layout.0 less
    | inr small ↦ changes-globals before.heap now.heap k 1 g (places.small small).2 places.layout.0 less
  ]

  pub small-words : size ≤ 2048 → (i : ℕ) → IsAddress before.heap.blocks i → block_at before.heap.blocks i ≢ k → word_at now.heap i ≡ word_at before.heap i
  small-words small i there other = (places.small small).2.elsewhere i there
      (elim (cases_lt (block_at before.heap.blocks i) k) as (λ _. (block_at before.heap.blocks i < k) ⊎ (k + 1 ≤ block_at before.heap.blocks i)) [ inl less ↦ inl less | inr more ↦ inr (beyond (block_at before.heap.blocks i) k more other) ])
    where
      beyond : (x y : ℕ) → y ≤ x → x ≢ y → y + 1 ≤ x
      beyond x y most other = omega arith

  pub small-blocks : size ≤ 2048 → (j : ℕ) → j < before.heap.blocks → j ≢ k → block_word now.heap j ≡ block_word before.heap j
  small-blocks small j there other = (places.small small).1.others j there other

  pub small-kind : size ≤ 2048 → HasKind now.heap k t.rules.fill
  small-kind small =
      let placed = places.small small in
      elim placed.0.spot as (λ _. HasKind now.heap k t.rules.fill) [
        | inl hole ↦
            let has : HasKind before.heap k t.rules.fill = hole-kind t.rules.fill before.heap k _ size hole in
            let same = placed.1.hole (hole-not_free t.rules.fill before.heap k _ size hole) in
            kind-from now.heap k t.rules.fill (inside (kind-within before.heap k t.rules.fill has)) (ap (λ v. v % 256) same ∙ kind-code before.heap k t.rules.fill has)
        | inr free ↦
            let word = placed.1.free free.0 in
            kind-from now.heap k t.rules.fill (inside (kind-within before.heap k kinds.Free free.0))
            (ap (λ v. v % 256) word ∙ code (kind_code t.rules.fill) (class_for t.rules.fill size) (kind_code_most t.rules.fill))
      ]
    where
      inside : k < before.heap.blocks → k < now.heap.blocks
      inside less = subst (λ (b : ℕ). k < b) (sym places.layout.0) less

      code : (kind class : ℕ) → kind ≤ 8 → (kind + 256 * class + 65536 * 0) % 256 ≡ kind
      code kind class most = omega arith

  pub large-block : 2048 < size → (offset_at before.heap.blocks places.place ≡ 0) × HasKind before.heap k kinds.Free × HasKind now.heap k kinds.LargeHead
  large-block large =
      let placed = places.large large in
      let some : 0 < blocks_for size = omega arith in
      let here : k + 0 ≡ k = omega arith in
      let head : block_word now.heap k ≡ 6 + 256 * blocks_for size + 65536 * 0 = placed.1.head in
      let free : HasKind before.heap k kinds.Free = subst (λ (j : ℕ). HasKind before.heap j kinds.Free) here (placed.0.run.free 0 some) in
      let there : k < before.heap.blocks = kind-within before.heap k kinds.Free free in
      (placed.0.start, free, kind-from now.heap k kinds.LargeHead (subst (λ (b : ℕ). k < b) (sym places.layout.0) there) (omega arith))

  pub large-words : 2048 < size → (i : ℕ) → IsAddress before.heap.blocks i → (block_at before.heap.blocks i < k) ⊎ (k + blocks_for size ≤ block_at before.heap.blocks i) → word_at now.heap i ≡ word_at before.heap i
  large-words large i there outside = (places.large large).2.elsewhere i there outside
