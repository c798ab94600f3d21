-- The mutator may write an object at the start of the region that it owns, in a cell or in a tail.
use Rattle.std.proofs.Common.{◌≡◌, ◌≢◌, sym, ◌∙◌, ap, subst, ℕ, ◌+◌, ◌*◌, ◌%◌, ◌<◌, ◌≤◌, ◌⊎◌, inl, inr, arith, IsTrue, mul-le-mul_right}
use Rattle.std.specs.Prelude.{Some}
use Rattle.std.specs.List.{Contains}
use Rattle.std.proofs.lemmas.Bool.{cases_lt, cases_eq}
use Rattle.heap_layout.specs.Zones.{heap_of, block_start, block_at, offset_at, IsAddress}
use Rattle.heap_layout.specs.Blocks.{kind_code}
use Rattle.heap_layout.specs.declared.block.Kind.{Kind}
use Rattle.heap_layout.specs.declared.block.Kind.TheVariants as kinds
use Rattle.heap_layout.specs.declared.region.Region.{Region}
use Rattle.heap_layout.proofs.BlockLemmas.{code_parts, kind_code_most, valid_most}
use Rattle.object_model.specs.Objects.{HeapState, block_word, HasKind, class_at, is_start, cell_words}
use Rattle.object_model.proofs.OneKind.{kind-from}
use Rattle.sessions.specs.Fitting.{IsFreeCell, LiesInHole, class_of}
use Rattle.sessions.proofs.Holes.{class-room}
use Rattle.mutator_core.specs.declared.state.Extent.{Extent}
use Rattle.mutator_core.specs.declared.state.OwnedBlock.{OwnedBlock}
use Rattle.mutator_core.specs.Machine.{Epoch, Machine, heap_in}
use Rattle.mutator_core.specs.Guards.{IsCell, IsAvailable, BeginsRegion}
use Rattle.mutator_core.specs.Epochs.{EpochMayBegin, IsInEpoch, IsOwned, IsMade}
use Rattle.mutator_core.proofs.Fills.{owned-class}
use Rattle.block_regions.specs.Notes.{FillsTails, FillsHoles, IsOwnedNote}
use Rattle.block_regions.specs.Regions.{IsRegionIn, IsCellLeft, free, full, IsRestAfter, without_first}
use Rattle.block_regions.proofs.Regions.{region-inside, fills-cases}
use Rattle.local_allocators.proofs.LineRooms.{here-lies}
use Rattle.block_regions.proofs.FilledKinds.{filled-class}
use Rattle.local_allocators.proofs.Rooms as rooms

-- cells of one size, each with room for its object, begin at the same word or are apart
cells-apart : (w i j from at size n : ℕ) → at ≡ i * w → from ≡ j * w → size ≤ w → n ≤ w → from ≢ at → (from + n ≤ at) ⊎ (at + size ≤ from)
cells-apart w i j from at size n starts other-starts fits other-fits differs = elim (cases_lt j i) as (λ _. (from + n ≤ at) ⊎ (at + size ≤ from)) [
  | inl less ↦ (let more = mul-le-mul_right {m = j + 1} {n = i} w (omega (arith, less)) in let e : (j + 1) * w ≡ j * w + w = omega arith in inl (omega arith))
  | inr past ↦ elim (cases_eq i j) as (λ _. (from + n ≤ at) ⊎ (at + size ≤ from)) [
    | inl same ↦ absurd (differs (other-starts ∙ ap (λ k. k * w) (sym same) ∙ sym starts))
    | inr away ↦ (let more = mul-le-mul_right {m = i + 1} {n = j} w (omega (arith, past, away)) in let e : (i + 1) * w ≡ i * w + w = omega arith in inr (omega arith))
  ]
]

-- where a block lies, and an offset in it
module _ (blocks block a offset size : ℕ) (there : block < blocks) (some : 0 < size) (room : offset + size ≤ 4096)
    (starts : a ≡ block_start blocks block + offset) where
  pub block-is : block_at blocks a ≡ block
  block-is = omega arith

  pub offset-is : offset_at blocks a ≡ offset
  offset-is = omega arith

  pub address : IsAddress blocks a
  address = record { from = omega arith; below = omega arith }

module _ (p : Epoch) (cells : p.rules.fill ≡ kinds.Cells) (h : Machine) (now : IsInEpoch p (heap_in p h) h.locals)
    (m block a size : ℕ) (region : Region) (note : IsOwnedNote p.rules.fill (heap_in p h) block m region)
    (taken : Contains (h.locals m).owned (record { block = block; class = class_at (heap_in p h) block }))
    (there : block < p.before.blocks) (some : 0 < size) (room : region.next + size ≤ region.end)
    (fits : class_of size ≡ Some (class_at (heap_in p h) block)) (starts : a ≡ block_start p.before.blocks block + region.next) where
  abbrev s : HeapState
  s = heap_in p h

  of-left : IsCellLeft (heap_in p h) block 0 region → IsFreeCell (heap_in p h) block region.next
  of-left (free next ends) = next.cell
  of-left (full none begins ends) = absurd (omega arith)

  cell : IsFreeCell (heap_in p h) block region.next
  cell = of-left (subst (λ (f : Kind). IsRegionIn f (heap_in p h) block region) cells note.left)

  few : size ≤ cell_words (class_at (heap_in p h) block)
  few = class-room size (class_at (heap_in p h) block) fits

  within : region.next + size ≤ 4096
  within = let inside : region.next + cell_words (class_at (heap_in p h) block) ≤ 4096 = cell.inside in let most = few in omega arith

  block-here : block_at p.before.blocks a ≡ block
  block-here = block-is p.before.blocks block a region.next size there some within starts

  offset-here : offset_at p.before.blocks a ≡ region.next
  offset-here = offset-is p.before.blocks block a region.next size there some within starts

  address-here : IsAddress p.before.blocks a
  address-here = address p.before.blocks block a region.next size there some within starts

  owned : IsOwned p s (h.locals m).number (record { block = block; class = class_at (heap_in p h) block })
  owned = (now.knows m).owned (record { block = block; class = class_at (heap_in p h) block }) taken

  -- a cell that is free now was free as the epoch began
  free-then : IsTrue (is_start p.before (block_start p.before.blocks block + region.next)) → ⊥
  free-then is = cell.free (now.stays (block_start p.before.blocks block + region.next)
      (record { address = subst (IsAddress p.before.blocks) starts address-here; start = is })).0.start

  used-then : block_word p.before block ≡ kind_code p.rules.fill + 256 * class_at (heap_in p h) block + 65536 * 0 → LiesInHole kinds.Cells p.before block region.next size
  used-then used =
      let parts = code_parts (kind_code p.rules.fill) (class_at (heap_in p h) block) 0 (block_word p.before block) (kind_code_most p.rules.fill)
      (valid_most p.rules.fill (class_at (heap_in p h) block) (h.locals m).number owned.valid).0 (sym used) in
      let same : class_at p.before block ≡ class_at (heap_in p h) block = parts.1 in (
        subst (HasKind p.before block) cells (kind-from p.before block p.rules.fill there parts.0),
        record {
          index = cell.index;
          start = cell.start ∙ ap (λ c. cell.index * cell_words c) (sym same);
          inside = subst (λ (c : ℕ). region.next + cell_words c ≤ 4096) (sym same) cell.inside;
          free = free-then;
        },
        fits ∙ ap (λ c. Some c) (sym same),
      )

  hole-then : HasKind p.before block kinds.Free ⊎ LiesInHole p.rules.fill p.before block region.next size
  hole-then = elim owned.before as (λ _. HasKind p.before block kinds.Free ⊎ LiesInHole p.rules.fill p.before block region.next size) [
    | inl none ↦ inl (kind-from p.before block kinds.Free there (ap (λ (v : ℕ). v % 256) none))
    | inr used ↦ inr (subst (λ (f : Kind). LiesInHole f p.before block region.next size) (sym cells) (used-then used))
  ]

  in-block : (x : Extent) → IsMade p s (h.locals m).owned x → block_at p.before.blocks x.address ≡ block → (x.address + x.size ≤ a) ⊎ (a + size ≤ x.address)
  in-block x is here =
      let own : OwnedBlock = is.place.owned in
      let same : own.class ≡ class_at (heap_in p h) block = sym (owned-class p s (h.locals m).number own ((now.knows m).owned own is.place.among))
      ∙ ap (class_at (heap_in p h)) (is.place.here ∙ here) in
      let its : IsCell x.address x.size p.before.blocks (class_at (heap_in p h) block) = subst (IsCell x.address x.size p.before.blocks) same (is.place.cell cells) in
      let from : heap_of p.before.blocks ≤ x.address = is.place.address.from in
      let b : ℕ = p.before.blocks in
      let other : offset_at p.before.blocks x.address ≢ region.next = λ equal.
      cell.free (ap (is_start s) (let e : block_start b block + region.next ≡ x.address = omega arith in e) ∙ is.held.start) in
      elim (cells-apart (cell_words (class_at (heap_in p h) block)) cell.index its.index (offset_at p.before.blocks x.address) region.next size x.size cell.start its.start few
      (class-room x.size (class_at (heap_in p h) block) its.fits) other) as (λ _. (x.address + x.size ≤ a) ⊎ (a + size ≤ x.address)) [
        | inl before ↦ inl (omega arith)
        | inr after ↦ inr (omega arith)
      ]

  beside : (x : Extent) → Contains (h.locals m).made x → (x.address + x.size ≤ a) ⊎ (a + size ≤ x.address)
  beside x by =
      let is : IsMade p s (h.locals m).owned x = (now.knows m).objects x by in
      let from : heap_of p.before.blocks ≤ x.address = is.place.address.from in
      let inside : offset_at p.before.blocks x.address + x.size ≤ 4096 = is.place.inside in
      let b : ℕ = p.before.blocks in
      let most = within in
      elim (cases_lt (block_at p.before.blocks x.address) block) as (λ _. (x.address + x.size ≤ a) ⊎ (a + size ≤ x.address)) [
        | inl under ↦ inl (omega arith)
        | inr from_block ↦ elim (cases_lt block (block_at p.before.blocks x.address)) as (λ _. (x.address + x.size ≤ a) ⊎ (a + size ≤ x.address)) [
          | inl above ↦ inr (omega arith)
          | inr below ↦ in-block x is (let e : block_at p.before.blocks x.address ≡ block = omega arith in e)
        ]
      ]

  pub available-cell : IsAvailable p (h.locals m).owned (h.locals m).made a size
  available-cell = record {
    place = record {
      address = address-here;
      inside = subst (λ (k : ℕ). k + size ≤ 4096) (sym offset-here) within;
      owned = record { block = block; class = class_at (heap_in p h) block };
      among = taken;
      here = sym block-here;
      hole = subst (λ (k : ℕ). HasKind p.before k kinds.Free ⊎ LiesInHole p.rules.fill p.before k (offset_at p.before.blocks a) size) (sym block-here)
          (subst (λ (k : ℕ). HasKind p.before block kinds.Free ⊎ LiesInHole p.rules.fill p.before block k size) (sym offset-here) hole-then);
      cell = λ is. record {
        fits = fits;
        index = cell.index;
        start = offset-here ∙ cell.start;
        inside = subst (λ (k : ℕ). k + cell_words (class_at (heap_in p h) block) ≤ 4096) (sym offset-here) cell.inside;
      };
    };
    beside = beside;
  }

-- under tails and cells
module _ (p : Epoch) (ready : EpochMayBegin p) (fills : FillsHoles p.rules.fill) (h : Machine) (now : IsInEpoch p (heap_in p h) h.locals)
    (m block a size : ℕ) (region : Region) (note : IsOwnedNote p.rules.fill (heap_in p h) block m region)
    (taken : Contains (h.locals m).owned (record { block = block; class = class_at (heap_in p h) block }))
    (there : block < p.before.blocks) (some : 0 < size) (room : region.next + size ≤ region.end)
    (fits : p.rules.fill ≡ kinds.Cells → class_of size ≡ Some (class_at (heap_in p h) block))
    (starts : a ≡ block_start p.before.blocks block + region.next) where
  pub inside : region.next + size ≤ 4096
  inside = let end : region.end ≤ 4096 = (region-inside p.rules.fill (heap_in p h) block region note.left).1 in omega arith

  of-tails : FillsTails p.rules.fill → IsAvailable p (h.locals m).owned (h.locals m).made a size × BeginsRegion p (h.locals m).made a size
  of-tails tails =
      let none : class_at (heap_in p h) block ≡ 0 = filled-class p.rules.fill (class_at (heap_in p h) block) (h.locals m).number tails
      ((now.knows m).owned (record { block = block; class = class_at (heap_in p h) block }) taken).valid in
      let among : Contains (h.locals m).owned (record { block = block; class = 0 }) =
      subst (λ (c : ℕ). Contains (h.locals m).owned (record { block = block; class = c })) none taken in (
        rooms.available p ready tails h now m block a size region note among there some inside starts,
        rooms.begins-region p ready tails h now m block a size region note among there some inside starts,
      )

  pub may-lie : IsAvailable p (h.locals m).owned (h.locals m).made a size × BeginsRegion p (h.locals m).made a size
  may-lie = elim (fills-cases p.rules.fill fills) as (λ _. IsAvailable p (h.locals m).owned (h.locals m).made a size × BeginsRegion p (h.locals m).made a size) [
    | inl (inl tails) ↦ of-tails tails
    | inl (inr cells) ↦ (available-cell p cells h now m block a size region note taken there some room (fits cells) starts, inl cells)
    | inr lines ↦ here-lies p ready lines h now m block a size region note.owner
        (subst (λ (f : Kind). IsRegionIn f (heap_in p h) block region) lines note.left) taken there some room starts
  ]

-- what an object leaves begins later
left-later : (s : HeapState) (k size from : ℕ) (rest : Region) → 0 < from → IsCellLeft s k from rest → 0 < rest.next
left-later s k size from rest some (free next ends) = let after : from ≤ rest.next = next.after in omega arith
left-later s k size from rest some (full none starts ends) = omega arith

tail-later : (size : ℕ) (r rest : Region) → 0 < size → rest ≡ without_first size r → 0 < rest.next
tail-later size r rest some is = subst (λ (q : Region). 0 < q.next) (sym is) (omega arith)

pub rest-later : (fill : Kind) (s : HeapState) (k size : ℕ) (r rest : Region) → 0 < size → r.next + size ≤ r.end → IsRestAfter fill s k size r rest → 0 < rest.next
rest-later kinds.Bump s k size r rest some room is = tail-later size r rest some is
rest-later kinds.Young s k size r rest some room is = tail-later size r rest some is
rest-later kinds.Cells s k size r rest some room is = left-later s k size r.end rest (omega arith) is
rest-later kinds.Free s k size r rest some room is = absurd is
rest-later kinds.Mature s k size r rest some room is = absurd is
rest-later kinds.Immix s k size r rest some room is = tail-later size r rest some is
rest-later kinds.LargeHead s k size r rest some room is = absurd is
rest-later kinds.LargeTail s k size r rest some room is = absurd is
rest-later kinds.Kept s k size r rest some room is = absurd is
