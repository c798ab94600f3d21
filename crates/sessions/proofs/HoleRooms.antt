-- Room for an object at the start of a hole, and the hole of a Free block that is taken.
use Rattle.std.proofs.Common.{◌≡◌, ◌≢◌, refl, sym, ◌∙◌, ap, subst, subst₂, ℕ, ◌+◌, ◌/◌, ◌%◌, ◌<◌, ◌≤◌, ◌⊎◌, inl, inr, arith, true, false, IsTrue}
use Rattle.std.proofs.lemmas.Bool.{and_from, cases_lt, le-leb}
use Rattle.heap_layout.specs.Zones.{block_at, offset_at, block_start, IsAddress}
use Rattle.heap_layout.specs.Blocks.{IsValidWord, kind_code, code_of}
use Rattle.heap_layout.specs.declared.block.Kind.{Kind}
use Rattle.heap_layout.specs.declared.block.Kind.TheVariants as kinds
use Rattle.heap_layout.proofs.BlockLemmas.{code_parts, kind_code_most}
use Rattle.ideal_heap.specs.declared.name.Name.{Name}
use Rattle.ideal_heap.specs.Names.{IsName}
use Rattle.object_model.specs.Objects.{HeapState, HasKind, class_at, IsHeld, IsInExtent, name_at, size_of, cell_words}
use Rattle.object_model.specs.Lawful.{IsLawful, IsWellFormed, LineBitsAreExact, LiesInCell, has_small}
use Rattle.object_model.specs.Births.{IsRoom, with_block}
use Rattle.object_model.proofs.Blocks as blocks
use Rattle.object_model.proofs.OneKind.{kind-within, one-kind, is_small_code, has_small-code}
use Rattle.sessions.specs.Fitting.{HasHole, class_for}
use Rattle.sessions.specs.Sessions.{block_of_kind}
use Rattle.sessions.proofs.Holes.{class-room, hole-clear, hole-start}
use Rattle.sessions.proofs.HoleKinds.{is_holed, few-classes, cell-start, clear-hole, hole-cell, lies-kind, lies-within, none-lies}

-- a block with a hole has the kind of holes, is not Free, and has small objects; its words are the hole's
pub hole-kind : (fill : Kind) (s : HeapState) (k at size : ℕ) → HasHole fill s k at size → HasKind s k fill
hole-kind fill s k at size hole = lies-kind fill s k at size (hole-start fill s k at size hole)

pub hole-not-free : (fill : Kind) (s : HeapState) (k at size : ℕ) → HasHole fill s k at size → HasKind s k kinds.Free → ⊥
hole-not-free fill s k at size hole free = none-lies fill kinds.Free s k at size refl (hole-start fill s k at size hole) free

pub hole-within : (fill : Kind) (s : HeapState) (k at size : ℕ) → HasHole fill s k at size → at + size ≤ 4096
hole-within fill s k at size hole = lies-within fill s k at size (hole-start fill s k at size hole)

small-kind : (fill : Kind) (s : HeapState) (k at size : ℕ) → HasHole fill s k at size → IsTrue (is_small_code true (kind_code fill))
small-kind kinds.Bump s k at size hole = refl
small-kind kinds.Young s k at size hole = refl
small-kind kinds.Cells s k at size hole = refl
small-kind kinds.Immix s k at size hole = refl
small-kind kinds.Free s k at size hole = absurd hole
small-kind kinds.Mature s k at size hole = absurd hole
small-kind kinds.LargeHead s k at size hole = absurd hole
small-kind kinds.LargeTail s k at size hole = absurd hole
small-kind kinds.Kept s k at size hole = absurd hole

pub hole-small : (fill : Kind) (s : HeapState) (k at size : ℕ) → HasHole fill s k at size → IsTrue (has_small s k)
hole-small fill s k at size hole = has_small-code s k fill (hole-kind fill s k at size hole) ∙ small-kind fill s k at size hole

-- only one kind has this code
cells-code : (fill : Kind) → kind_code fill ≡ 5 → fill ≡ kinds.Cells
cells-code kinds.Cells e = refl
cells-code kinds.Bump e = absurd (omega arith)
cells-code kinds.Young e = absurd (omega arith)
cells-code kinds.Immix e = absurd (omega arith)
cells-code kinds.Free e = absurd (omega arith)
cells-code kinds.Mature e = absurd (omega arith)
cells-code kinds.LargeHead e = absurd (omega arith)
cells-code kinds.LargeTail e = absurd (omega arith)
cells-code kinds.Kept e = absurd (omega arith)

module _ (fill : Kind) (s : HeapState) (k at refs nums : ℕ) (n : Name) (order : IsWellFormed s) (right : LineBitsAreExact s k) (hole : HasHole fill s k at (size_of refs nums)) where
  abbrev a : ℕ
  a = block_start s.blocks k + at

  there : k < s.blocks
  there = kind-within s k fill (hole-kind fill s k at (size_of refs nums) hole)

  within : at + size_of refs nums ≤ 4096
  within = hole-within fill s k at (size_of refs nums) hole

  block : block_at s.blocks a ≡ k
  block = (let fits : at + size_of refs nums ≤ 4096 = within in omega arith)

  offset : offset_at s.blocks a ≡ at
  offset = (let fits : at + size_of refs nums ≤ 4096 = within in omega arith)

  address : IsAddress s.blocks a
  address = (let fits : at + size_of refs nums ≤ 4096 = within in let below : k < s.blocks = there in record { from = omega arith; below = omega arith })

  -- the words of an object held before lie before or after
  apart : (x i : ℕ) → IsHeld s x → IsInExtent s x i → (i < a) ⊎ (a + size_of refs nums ≤ i)
  apart x i holds inside = elim (cases_lt i a) as (λ _. (i < a) ⊎ (a + size_of refs nums ≤ i)) [
    | inl before ↦ inl before
    | inr from ↦ elim (cases_lt i (a + size_of refs nums)) as (λ _. (i < a) ⊎ (a + size_of refs nums ≤ i)) [
      | inl below ↦
          let fits : at + size_of refs nums ≤ 4096 = within in
          absurd (hole-clear fill s k at (size_of refs nums) x i order right (hole-start fill s k at (size_of refs nums) hole) holds inside (omega arith) (omega arith) (omega arith))
      | inr beyond ↦ inr beyond
    ]
  ]

  -- a hole of a block of cells is a cell
  cell : HasKind s (block_at s.blocks a) kinds.Cells → LiesInCell s a (size_of refs nums)
  cell is =
      let cells : HasKind s k kinds.Cells = subst (λ (q : ℕ). HasKind s q kinds.Cells) block is in
      let same : fill ≡ kinds.Cells = cells-code fill (one-kind s k fill kinds.Cells (hole-kind fill s k at (size_of refs nums) hole) cells) in
      let found : HasHole kinds.Cells s k at (size_of refs nums) = subst (λ (f : Kind). HasHole f s k at (size_of refs nums)) same hole in
      let starts = cell-start fill s k at (size_of refs nums) same (hole-cell fill s k at (size_of refs nums) hole) in
      record {
        start = ap (λ o. o % cell_words (class_at s (block_at s.blocks a))) offset ∙ subst (λ (q : ℕ). at % cell_words (class_at s q) ≡ 0) (sym block) starts.2;
        room = subst (λ (q : ℕ). size_of refs nums ≤ cell_words (class_at s q)) (sym block) (class-room (size_of refs nums) (class_at s k) found.2);
        within = subst₂ (λ (o q : ℕ). o + cell_words (class_at s q) ≤ 4096) (sym offset) (sym block) found.1.inside;
      }

  pub hole-room : size_of refs nums ≤ 2048 → refs ≤ 1024 → nums ≤ 60000 → IsName n → ((x : ℕ) → IsHeld s x → name_at s x ≢ n) → IsRoom s a n refs nums
  hole-room small few_refs few_nums named fresh = record {
    vacant = record { address = address; named = named; few_refs = few_refs; few_nums = few_nums; apart = apart; fresh = fresh };
    small = small;
    place = record {
      address = address;
      within = (let fits : at + size_of refs nums ≤ 4096 = within in let is : offset_at s.blocks a ≡ at = offset in omega arith);
      kind = subst (λ (q : ℕ). IsTrue (has_small s q)) (sym block) (hole-small fill s k at (size_of refs nums) hole);
      cell = cell;
    };
  }

-- the word of a block that is taken for a size is valid
pub valid-word : (fill : Kind) (size : ℕ) → IsTrue (is_holed (kind_code fill)) → size ≤ 2048 → IsValidWord (block_of_kind fill (class_for fill size))
valid-word kinds.Bump size holed small = refl
valid-word kinds.Young size holed small = refl
valid-word kinds.Immix size holed small = refl
valid-word kinds.Cells size holed small = and_from _ _ (le-leb (class_for kinds.Cells size) 18 (few-classes kinds.Cells size small)) refl
valid-word kinds.Free size holed small = absurd (let wrong : false ≡ true = holed in cc)
valid-word kinds.Mature size holed small = absurd (let wrong : false ≡ true = holed in cc)
valid-word kinds.LargeHead size holed small = absurd (let wrong : false ≡ true = holed in cc)
valid-word kinds.LargeTail size holed small = absurd (let wrong : false ≡ true = holed in cc)
valid-word kinds.Kept size holed small = absurd (let wrong : false ≡ true = holed in cc)

-- a Free block that is taken for a size has a hole for it
pub taken-hole : (fill : Kind) (s : HeapState) (k size : ℕ) → IsTrue (is_holed (kind_code fill)) → IsLawful s → HasKind s k kinds.Free → size ≤ 2048
    → HasHole fill (with_block s k (block_of_kind fill (class_for fill size))) k 0 size
taken-hole fill s k size holed right free small =
    let class : ℕ = class_for fill size in
    let code : ℕ = code_of (block_of_kind fill class) in
    let there : k < s.blocks = kind-within s k kinds.Free free in
    let extent = right.but_lines.order.row.extent in
    let parts = code_parts (kind_code fill) class 0 code (kind_code_most fill) (few-classes fill size small) refl in
    clear-hole fill (with_block s k (block_of_kind fill class)) k size holed
    (blocks.kind-own s k code there extent fill parts.0)
    (ap (λ v. v / 256 % 256) (blocks.block-set s k code there extent) ∙ parts.1)
    (blocks.clear-after s (blocks.set_block s k code) (blocks.same_heap s k code there) k (λ line less. blocks.lines-same s k code there k line) (right.but_lines.free k free))
    small
