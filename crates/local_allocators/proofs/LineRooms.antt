-- In an epoch whose mutators fill lines, the owner of a block may have an object at the start of its region.
use Rattle.std.proofs.Common.{◌≡◌, sym, ◌∙◌, ap, subst, ℕ, ◌+◌, ◌*◌, ◌-◌, ◌/◌, ◌%◌, ◌<◌, ◌≤◌, ◌⊎◌, inl, inr, arith}
use Rattle.std.specs.List.{Contains}
use Rattle.std.proofs.lemmas.Bool.{cases_lt}
use Rattle.heap_layout.specs.Zones.{heap_of, block_at, offset_at, block_start, IsAddress}
use Rattle.heap_layout.specs.Blocks.{kind_code}
use Rattle.heap_layout.specs.declared.block.Kind.{Kind}
use Rattle.heap_layout.specs.declared.block.Kind.TheVariants as kinds
use Rattle.heap_layout.specs.declared.region.Region.{Region}
use Rattle.heap_layout.proofs.BlockLemmas.{code_parts, kind_code_most, valid_most}
use Rattle.object_model.specs.Objects.{HeapState, block_word, HasKind, owner_at, class_at, IsHeld, IsInExtent, size_at}
use Rattle.object_model.proofs.OneKind.{kind-from}
use Rattle.sessions.specs.Fitting.{IsLineHole, HasHole, LiesInHole}
use Rattle.mutator_core.specs.declared.state.Extent.{Extent}
use Rattle.mutator_core.specs.Machine.{Epoch, Machine, heap_in}
use Rattle.mutator_core.specs.Guards.{IsAvailable, BeginsRegion}
use Rattle.mutator_core.specs.Epochs.{EpochMayBegin, IsInEpoch, IsOwned, IsMade}
use Rattle.mutator_core.proofs.Places.{extent-then, place-owner}
use Rattle.block_regions.specs.Regions.{HasObjectEndingAt, IsLinesLeft}
use Rattle.block_regions.proofs.LineRegions.{hole-first, word-marked, line-hole-as}

module _ (p : Epoch) (ready : EpochMayBegin p) (fills : p.rules.fill ≡ kinds.Immix) (h : Machine) (now : IsInEpoch p (heap_in p h) h.locals)
    (m block a size : ℕ) (region : Region) (owner : owner_at (heap_in p h) block ≡ m) (left : IsLinesLeft (heap_in p h) block region)
    (taken : Contains (h.locals m).owned (record { block = block; class = class_at (heap_in p h) block }))
    (there : block < p.before.blocks) (some : 0 < size) (room : region.next + size ≤ region.end)
    (starts : a ≡ block_start p.before.blocks block + region.next) where
  abbrev s : HeapState
  s = heap_in p h

  -- the hole of the region
  first-inside : (16 * left.line ≤ region.next) × (region.end ≡ 16 * (left.line + left.len)) × (left.line + left.len ≤ 256)
  first-inside = (
    elim left.begins as (λ _. 16 * left.line ≤ region.next) [ inl front ↦ (let e : region.next ≡ 16 * left.line = front in omega arith) | inr past ↦ past.0 ],
    left.end,
    left.hole.inside,
  )

  -- the new object lies in the block, at the start of the region
  within : region.next + size ≤ 4096
  within = let e = first-inside.1 in let few = first-inside.2 in omega arith

  block-here : block_at p.before.blocks a ≡ block
  block-here = let b : ℕ = p.before.blocks in let few = within in omega arith

  offset-here : offset_at p.before.blocks a ≡ region.next
  offset-here = let b : ℕ = p.before.blocks in let few = within in omega arith

  address-here : IsAddress p.before.blocks a
  address-here = let b : ℕ = p.before.blocks in let few = within in record { from = omega arith; below = omega arith }

  -- the mutator owns the block
  owned : IsOwned p s (h.locals m).number (record { block = block; class = class_at (heap_in p h) block })
  owned = (now.knows m).owned (record { block = block; class = class_at (heap_in p h) block }) taken

  -- as the epoch began
  kind-before : HasKind p.before block kinds.Free ⊎ HasKind p.before block kinds.Immix
  kind-before = elim owned.before as (λ _. HasKind p.before block kinds.Free ⊎ HasKind p.before block kinds.Immix) [
    | inl free ↦ inl (kind-from p.before block kinds.Free there (ap (λ (v : ℕ). v % 256) free))
    | inr used ↦ inr (subst (HasKind p.before block) fills (kind-from p.before block p.rules.fill there
        (code_parts (kind_code p.rules.fill) (class_at (heap_in p h) block) 0 (block_word p.before block) (kind_code_most p.rules.fill)
        (valid_most p.rules.fill (class_at (heap_in p h) block) (h.locals m).number owned.valid).0 (sym used)).0))
  ]

  -- the hole was there as the epoch began
  hole-then : IsLineHole p.before block left.line left.len
  hole-then = line-hole-as (heap_in p h) p.before block left.line left.len (λ line few. sym (now.lines block line there few)) left.hole

  -- an object that was held then has no word in the hole
  no-old : (x i : ℕ) → IsHeld p.before x → IsInExtent p.before x i → block_at p.before.blocks i ≡ block → 16 * left.line ≤ offset_at p.before.blocks i
      → offset_at p.before.blocks i < 16 * (left.line + left.len) → ⊥
  no-old x i before inside here from below = elim kind-before as (λ _. ⊥) [
    | inl free ↦ (ready.lawful.but_lines.free block free).empty x i before inside here
    | inr kind ↦ hole-then.clear (offset_at p.before.blocks i / 16) (omega arith) (omega arith) (word-marked p.before block x i kind (ready.lawful.lines block) before inside here)
  ]

  -- the region begins with the hole, or after an object that this mutator made
  data Begins : Type 0 where
    front : region.next ≡ 16 * left.line → Begins
    made : (x : ℕ) → Contains (h.locals m).made (record { address = x; size = size_at s x }) → heap_of p.before.blocks ≤ x
        → block_at p.before.blocks x ≡ block → offset_at p.before.blocks x + size_at s x ≡ region.next → Begins

  -- an object that ends in the hole is new, and made by the block's owner
  after-object : 16 * left.line < region.next → HasObjectEndingAt (heap_in p h) block region.next → Begins
  after-object later last =
      let x : ℕ = last.0 in
      let from : heap_of p.before.blocks ≤ last.0 = last.1.address.from in
      let here : block_at p.before.blocks last.0 ≡ block = last.2 in
      let ends : offset_at p.before.blocks last.0 + size_at s last.0 ≡ region.next = last.3 in
      let inside = first-inside in
      elim (now.births last.0 last.1) as (λ _. Begins) [
        | inl before ↦ absurd (
            let i : ℕ = last.0 + size_at s last.0 - 1 in
            let word : IsInExtent s last.0 i = record { from = omega arith; below = omega arith } in
            let few = within in
            no-old last.0 i before (extent-then p h now last.0 i before word) (omega arith) (omega arith) (omega arith))
        | inr allocated ↦ (
            let is : IsMade p s (h.locals allocated.0).owned (record { address = last.0; size = size_at s last.0 }) =
            (now.knows allocated.0).objects (record { address = last.0; size = size_at s last.0 }) allocated.1 in
            let who : allocated.0 ≡ m = sym (place-owner p h now allocated.0 last.0 (size_at s last.0) is.place).0 ∙ ap (owner_at s) here ∙ owner in
            made last.0 (subst (λ (q : ℕ). Contains (h.locals q).made (record { address = last.0; size = size_at s last.0 })) who allocated.1) from here ends)
      ]

  begins : Begins
  begins = elim left.begins as (λ _. Begins) [
    | inl at ↦ front at
    | inr past ↦ elim (cases_lt (16 * left.line) region.next) as (λ _. Begins) [
      | inl later ↦ after-object later past.1
      | inr not ↦ (let upto : 16 * left.line ≤ region.next = past.0 in front (omega arith))
    ]
  ]

  -- where the block was one of lines, the object lies in the hole that it had
  lies-then : HasKind p.before block kinds.Immix → LiesInHole kinds.Immix p.before block region.next size
  lies-then kind =
      let inside = first-inside in
      (kind, record { line = left.line; len = left.len; hole = hole-then; after = inside.0; inside = omega arith })

  -- and at its start the hole has room for it
  has-hole : HasKind p.before block kinds.Immix → region.next ≡ 16 * left.line → HasHole kinds.Immix p.before block region.next size
  has-hole kind at =
      let inside = first-inside in
      (kind, record { line = left.line; len = left.len; start = at; hole = hole-then; room = omega arith })

  -- the block was Free, or had the hole
  place-then : HasKind p.before block kinds.Free ⊎ LiesInHole p.rules.fill p.before block region.next size
  place-then = elim kind-before as (λ _. HasKind p.before block kinds.Free ⊎ LiesInHole p.rules.fill p.before block region.next size) [
    | inl free ↦ inl free
    | inr kind ↦ inr (subst (λ (f : Kind). LiesInHole f p.before block region.next size) (sym fills) (lies-then kind))
  ]

  -- the hole of a block that was Free is the block
  free-first : HasKind p.before block kinds.Free → left.line ≡ 0
  free-first free = hole-first p.before block left.line left.len (ready.lawful.but_lines.free block free).lines hole-then

  abbrev Region-at : ℕ → ℕ → Type 0
  Region-at k offset = (p.rules.fill ≡ kinds.Cells) ⊎ HasHole p.rules.fill p.before k offset size ⊎ (HasKind p.before k kinds.Free × (offset ≡ 0))
      ⊎ ((x : Extent) × Contains (h.locals m).made x × (block_at p.before.blocks x.address ≡ k) × (x.address + x.size ≡ a))

  -- the object begins a hole or a block, or follows an object of the mutator
  region-of : Begins → Region-at block region.next
  region-of (front at) = elim kind-before as (λ _. Region-at block region.next) [
    | inl free ↦ inr (inr (inl (free, (let none = free-first free in omega arith))))
    | inr kind ↦ inr (inl (subst (λ (f : Kind). HasHole f p.before block region.next size) (sym fills) (has-hole kind at)))
  ]
  region-of (made x by from here ends) =
      let b : ℕ = p.before.blocks in
      inr (inr (inr (record { address = x; size = size_at s x }, by, here, omega arith)))

  begins-region : BeginsRegion p (h.locals m).made a size
  begins-region = subst (λ (k : ℕ). Region-at k (offset_at p.before.blocks a)) (sym block-here) (subst (Region-at block) (sym offset-here) (region-of begins))

  -- an object that the mutator made in the block ends before the region, or begins after the new one
  in-block : (x : Extent) → IsMade p s (h.locals m).owned x → block_at p.before.blocks x.address ≡ block → (x.address + x.size ≤ a) ⊎ (a + size ≤ x.address)
  in-block x is here =
      let b : ℕ = p.before.blocks in
      let from : heap_of p.before.blocks ≤ x.address = is.place.address.from in
      let fits : offset_at p.before.blocks x.address + x.size ≤ 4096 = is.place.inside in
      let few = within in
      let block_a = block-here in
      let offset_a = offset-here in
      let above : heap_of p.before.blocks ≤ a = address-here.from in
      let word : (i : ℕ) → x.address ≤ i → i < x.address + x.size → IsInExtent s x.address i =
      λ i least less. record { from = least; below = subst (λ (n : ℕ). i < x.address + n) (sym is.same) less } in
      elim (cases_lt a (x.address + x.size)) as (λ _. (x.address + x.size ≤ a) ⊎ (a + size ≤ x.address)) [
        | inr past ↦ inl past
        | inl over ↦ elim (cases_lt x.address (a + size)) as (λ _. (x.address + x.size ≤ a) ⊎ (a + size ≤ x.address)) [
          | inr beyond ↦ inr beyond
          | inl under ↦ absurd (elim (cases_lt a x.address) as (λ _. ⊥) [
            | inr upto ↦ left.clear x.address a is.held here (word a upto over) block_a (omega arith) (omega arith)
            | inl after ↦ left.clear x.address x.address is.held here
                (word x.address (omega arith) (let same : size_at s x.address ≡ x.size = is.same in omega arith)) here (omega arith) (omega arith)
          ])
        ]
      ]

  -- no object of the mutator overlaps the new one
  beside : (x : Extent) → Contains (h.locals m).made x → (x.address + x.size ≤ a) ⊎ (a + size ≤ x.address)
  beside x by =
      let is : IsMade p s (h.locals m).owned x = (now.knows m).objects x by in
      let from : heap_of p.before.blocks ≤ x.address = is.place.address.from in
      let inside : offset_at p.before.blocks x.address + x.size ≤ 4096 = is.place.inside in
      let b : ℕ = p.before.blocks in
      let most = within in
      elim (cases_lt (block_at p.before.blocks x.address) block) as (λ _. (x.address + x.size ≤ a) ⊎ (a + size ≤ x.address)) [
        | inl under ↦ inl (omega arith)
        | inr from_block ↦ elim (cases_lt block (block_at p.before.blocks x.address)) as (λ _. (x.address + x.size ≤ a) ⊎ (a + size ≤ x.address)) [
          | inl above ↦ inr (omega arith)
          | inr below ↦ in-block x is (let e : block_at p.before.blocks x.address ≡ block = omega arith in e)
        ]
      ]

  -- lines are no cells
  no-cells : p.rules.fill ≡ kinds.Cells → ⊥
  no-cells cells = let wrong : kind_code kinds.Immix ≡ kind_code kinds.Cells = ap kind_code (sym fills ∙ cells) in omega arith

  -- the object may be written there
  available-lines : IsAvailable p (h.locals m).owned (h.locals m).made a size
  available-lines = record {
    place = record {
      address = address-here;
      inside = subst (λ (k : ℕ). k + size ≤ 4096) (sym offset-here) within;
      owned = record { block = block; class = class_at (heap_in p h) block };
      among = taken;
      here = sym block-here;
      hole = subst (λ (k : ℕ). HasKind p.before k kinds.Free ⊎ LiesInHole p.rules.fill p.before k (offset_at p.before.blocks a) size) (sym block-here)
          (subst (λ (k : ℕ). HasKind p.before block kinds.Free ⊎ LiesInHole p.rules.fill p.before block k size) (sym offset-here) place-then);
      cell = λ cells. absurd (no-cells cells);
    };
    beside = beside;
  }

  -- under lines
  pub here-lies : IsAvailable p (h.locals m).owned (h.locals m).made a size × BeginsRegion p (h.locals m).made a size
  here-lies = (available-lines, begins-region)
