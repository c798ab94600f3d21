-- Regions are holes, and what a region leaves is none.
use Rattle.std.proofs.Common.{◌≡◌, ◌≢◌, refl, sym, ◌∙◌, ap, subst, ℕ, zero, suc, ◌+◌, ◌<◌, ◌≤◌, ◌⊎◌, inl, inr, arith, Bool, true, false, ◌||◌, IsTrue, nat_le, leb-true, List, [], ◌∷◌, Some, None, slice_index}
use Rattle.std.specs.Prelude.{max, unwrap_or}
use Rattle.std.specs.List.{list_all}
use Rattle.std.proofs.lemmas.Bool.{and_parts, cases_Bool, true≢false}
use Rattle.heap_layout.specs.Zones.{block_at, block_start}
use Rattle.heap_layout.specs.Blocks.{kind_code}
use Rattle.heap_layout.specs.declared.block.Kind.{Kind}
use Rattle.heap_layout.specs.declared.block.Kind.TheVariants as kinds
use Rattle.heap_layout.specs.declared.region.Region.{Region}
use Rattle.object_model.specs.Objects.{HeapState, HasKind, class_at, is_start, is_pinned, is_unlogged, IsHeld, cell_words}
use Rattle.object_model.specs.Lawful.{IsClear, LineBitsAreExact}
use Rattle.sessions.specs.Fitting.{IsTail, IsFreeCell, HasHole, class_of, class_for}
use Rattle.sessions.proofs.HoleKinds.{class-least}
use Rattle.sessions.proofs.Holes.{class-room}
use Rattle.sessions.proofs.Tails.{tail-unique}
use Rattle.plan_api.proofs.PartLaws.{whole-part, part-whole}
use Rattle.plan_api.specs.Holes.{IsTailPart, IsCellPart, HasRoomFrom, IsFirstPart, IsFirstHole}
use Rattle.block_regions.specs.Regions.{IsTailLeft, IsCellLeft, free, full, IsRegionIn}
use Rattle.block_regions.specs.Notes.{FillsTails, FillsTailsOrCells, FillsHoles}
use Rattle.block_regions.proofs.LineRegions.{here-inside, here-first}

-- mutators fill no lines
pub no-lines : FillsTailsOrCells kinds.Immix → ⊥
no-lines (inl (inl bump)) = let wrong : kind_code kinds.Immix ≡ kind_code kinds.Bump = ap kind_code bump in omega arith
no-lines (inl (inr young)) = let wrong : kind_code kinds.Immix ≡ kind_code kinds.Young = ap kind_code young in omega arith
no-lines (inr cells) = let wrong : kind_code kinds.Immix ≡ kind_code kinds.Cells = ap kind_code cells in omega arith

-- mutators fill tails, cells or lines
pub fills-cases : (fill : Kind) → FillsHoles fill → FillsTailsOrCells fill ⊎ (fill ≡ kinds.Immix)
fills-cases kinds.Bump fills = inl (inl (inl refl))
fills-cases kinds.Young fills = inl (inl (inr refl))
fills-cases kinds.Cells fills = inl (inr refl)
fills-cases kinds.Immix fills = inr refl
fills-cases kinds.Free fills = absurd (true≢false (sym fills))
fills-cases kinds.Mature fills = absurd (true≢false (sym fills))
fills-cases kinds.LargeHead fills = absurd (true≢false (sym fills))
fills-cases kinds.LargeTail fills = absurd (true≢false (sym fills))
fills-cases kinds.Kept fills = absurd (true≢false (sym fills))

-- tails are no cells
pub no-cells : (fill : Kind) → FillsTails fill → fill ≡ kinds.Cells → ⊥
no-cells fill (inl bump) cells = let wrong : kind_code kinds.Bump ≡ kind_code kinds.Cells = ap kind_code (sym bump ∙ cells) in omega arith
no-cells fill (inr young) cells = let wrong : kind_code kinds.Young ≡ kind_code kinds.Cells = ap kind_code (sym young ∙ cells) in omega arith

-- no cell is larger than 2,048 words
index-most : (m : ℕ) (xs : List ℕ) (c : ℕ) → list_all (λ x. nat_le x m) xs ≡ true → slice_index xs c ≤ m
index-most m [] c all = omega arith
index-most m (x ∷ xs) zero all = leb-true x m (and_parts (nat_le x m) (list_all (λ y. nat_le y m) xs) all).0
index-most m (x ∷ xs) (suc c) all = index-most m xs c (and_parts (nat_le x m) (list_all (λ y. nat_le y m) xs) all).1

pub most-cell : (c : ℕ) → cell_words c ≤ 2048
most-cell c = index-most 2048 (4 ∷ 6 ∷ 8 ∷ 12 ∷ 16 ∷ 24 ∷ 32 ∷ 48 ∷ 64 ∷ 96 ∷ 128 ∷ 192 ∷ 256 ∷ 384 ∷ 512 ∷ 768 ∷ 1024 ∷ 1536 ∷ 2048 ∷ []) c refl

pub no-class : (size c : ℕ) → 2049 ≤ size → class_of size ≡ Some c → ⊥
no-class size c most is =
    let fits : size ≤ cell_words c = class-room size c is in
    let few : cell_words c ≤ 2048 = most-cell c in
    omega (arith, fits, few, most)

-- cells of block k are for the size
pub record SuitsCells (s : HeapState) (k size : ℕ) : Type 0 where
  pub some : 1 ≤ size
  pub class : class_of size ≡ Some (class_at s k)

pub suits-class : (s : HeapState) (k size : ℕ) → 1 ≤ size → size ≤ 2048 → class_at s k ≡ class_for kinds.Cells size → SuitsCells s k size
suits-class s k size some small same =
    let least = class-least size small in record {
      some = some;
      class = least.same ∙ ap (λ c. Some c) (sym (same ∙ ap (λ o. unwrap_or o 0) least.same));
    }

-- a hole lies in a block of the kind that mutators fill
pub hole-kind : (fill : Kind) (s : HeapState) (k at size : ℕ) → HasHole fill s k at size → HasKind s k fill
hole-kind kinds.Bump s k at size hole = hole.0
hole-kind kinds.Young s k at size hole = hole.0
hole-kind kinds.Cells s k at size hole = hole.0
hole-kind kinds.Immix s k at size hole = hole.0
hole-kind kinds.Free s k at size hole = absurd hole
hole-kind kinds.Mature s k at size hole = absurd hole
hole-kind kinds.LargeHead s k at size hole = absurd hole
hole-kind kinds.LargeTail s k at size hole = absurd hole
hole-kind kinds.Kept s k at size hole = absurd hole

-- a region lies in its block
left-inside : (s : HeapState) (k from : ℕ) (r : Region) → IsCellLeft s k from r → (r.next ≤ r.end) × (r.end ≤ 4096)
left-inside s k from r (free next ends) =
    let inside : r.next + cell_words (class_at s k) ≤ 4096 = next.cell.inside in (omega arith, omega arith)
left-inside s k from r (full none starts ends) = (omega arith, omega arith)

tail-inside : (s : HeapState) (k : ℕ) (r : Region) → IsTailLeft s k r → (r.next ≤ r.end) × (r.end ≤ 4096)
tail-inside s k r is = let end : r.end ≡ 4096 = is.end in (is.inside, omega arith)

pub region-inside : (fill : Kind) (s : HeapState) (k : ℕ) (r : Region) → IsRegionIn fill s k r → (r.next ≤ r.end) × (r.end ≤ 4096)
region-inside kinds.Bump s k r is = tail-inside s k r is
region-inside kinds.Young s k r is = tail-inside s k r is
region-inside kinds.Cells s k r is = left-inside s k 0 r is
region-inside kinds.Free s k r is = absurd is
region-inside kinds.Mature s k r is = absurd is
region-inside kinds.Immix s k r is = here-inside s k r is
region-inside kinds.LargeHead s k r is = absurd is
region-inside kinds.LargeTail s k r is = absurd is
region-inside kinds.Kept s k r is = absurd is

-- a region with room for the size is a hole
left-hole : (s : HeapState) (k size : ℕ) (r : Region) → HasKind s k kinds.Cells → IsCellLeft s k 0 r → SuitsCells s k size → r.next + size ≤ r.end → HasHole kinds.Cells s k r.next size
left-hole s k size r kind (free next ends) suits room = (kind, next.cell, suits.class)
left-hole s k size r kind (full none starts ends) suits room = absurd (let some : 1 ≤ size = suits.some in omega arith)

tail-room : (s : HeapState) (k size : ℕ) (r : Region) → IsTailLeft s k r → r.next + size ≤ r.end → r.next + size ≤ 4096
tail-room s k size r is room = let end : r.end ≡ 4096 = is.end in omega arith

pub region-hole : (fill : Kind) → FillsTailsOrCells fill → (s : HeapState) (k size : ℕ) (r : Region) → HasKind s k fill → IsRegionIn fill s k r → (fill ≡ kinds.Cells → SuitsCells s k size)
    → r.next + size ≤ r.end → HasHole fill s k r.next size
region-hole kinds.Bump fills s k size r kind is suits room = (kind, is.tail, tail-room s k size r is room)
region-hole kinds.Young fills s k size r kind is suits room = (kind, is.tail, tail-room s k size r is room)
region-hole kinds.Cells fills s k size r kind is suits room = left-hole s k size r kind is (suits refl) room
region-hole kinds.Free fills s k size r kind is suits room = absurd is
region-hole kinds.Mature fills s k size r kind is suits room = absurd is
region-hole kinds.Immix fills s k size r kind is suits room = absurd (no-lines fills)
region-hole kinds.LargeHead fills s k size r kind is suits room = absurd is
region-hole kinds.LargeTail fills s k size r kind is suits room = absurd is
region-hole kinds.Kept fills s k size r kind is suits room = absurd is

-- a block whose region has no room has no hole
left-lacks : (s : HeapState) (k at size : ℕ) (r : Region) → IsCellLeft s k 0 r → r.end < r.next + size → HasHole kinds.Cells s k at size → ⊥
left-lacks s k at size r (free next ends) over hole = let room : size ≤ cell_words (class_at s k) = class-room size (class_at s k) hole.2 in omega arith
left-lacks s k at size r (full none starts ends) over hole = none at (omega arith) hole.1

tail-lacks : (s : HeapState) (k at size : ℕ) (r : Region) → IsTailLeft s k r → r.end < r.next + size → IsTail s k at → at + size ≤ 4096 → ⊥
tail-lacks s k at size r is over tail room =
    let same : at ≡ r.next = tail-unique s k at r.next tail is.tail in
    let end : r.end ≡ 4096 = is.end in
    omega arith

pub region-lacks : (fill : Kind) → FillsTailsOrCells fill → (s : HeapState) (k at size : ℕ) (r : Region) → IsRegionIn fill s k r → r.end < r.next + size → HasHole fill s k at size → ⊥
region-lacks kinds.Bump fills s k at size r is over hole = tail-lacks s k at size r is over hole.1 hole.2
region-lacks kinds.Young fills s k at size r is over hole = tail-lacks s k at size r is over hole.1 hole.2
region-lacks kinds.Cells fills s k at size r is over hole = left-lacks s k at size r is over hole
region-lacks kinds.Free fills s k at size r is over hole = absurd is
region-lacks kinds.Mature fills s k at size r is over hole = absurd is
region-lacks kinds.Immix fills s k at size r is over hole = absurd (no-lines fills)
region-lacks kinds.LargeHead fills s k at size r is over hole = absurd is
region-lacks kinds.LargeTail fills s k at size r is over hole = absurd is
region-lacks kinds.Kept fills s k at size r is over hole = absurd is

-- and each hole begins where the region does, or later
left-before : (s : HeapState) (k from : ℕ) (r : Region) → IsCellLeft s k 0 r → IsFreeCell s k from → r.next ≤ from
left-before s k from r (free next ends) cell = next.first from (omega arith) cell
left-before s k from r (full none starts ends) cell = absurd (none from (omega arith) cell)

tail-before : (s : HeapState) (k from : ℕ) (r : Region) → IsTailLeft s k r → IsTail s k from → r.next ≤ from
tail-before s k from r is tail = let same : from ≡ r.next = tail-unique s k from r.next tail is.tail in omega arith

pub region-before : (fill : Kind) → FillsTailsOrCells fill → (s : HeapState) (k : ℕ) (r : Region) → IsRegionIn fill s k r → (from size : ℕ) → HasHole fill s k from size → r.next ≤ from
region-before kinds.Bump fills s k r is from size hole = tail-before s k from r is hole.1
region-before kinds.Young fills s k r is from size hole = tail-before s k from r is hole.1
region-before kinds.Cells fills s k r is from size hole = left-before s k from r is hole.1
region-before kinds.Free fills s k r is from size hole = absurd is
region-before kinds.Mature fills s k r is from size hole = absurd is
region-before kinds.Immix fills s k r is from size hole = absurd (no-lines fills)
region-before kinds.LargeHead fills s k r is from size hole = absurd is
region-before kinds.LargeTail fills s k r is from size hole = absurd is
region-before kinds.Kept fills s k r is from size hole = absurd is

-- nor has a block of cells of another class
pub class-lacks : (s : HeapState) (k at size : ℕ) → class_at s k ≢ class_for kinds.Cells size → HasHole kinds.Cells s k at size → ⊥
class-lacks s k at size other hole = other (sym (ap (λ o. unwrap_or o 0) hole.2))

-- a region begins at one place and has one end
left-first : (s : HeapState) (k : ℕ) (r q : Region) → IsCellLeft s k 0 r → IsCellLeft s k 0 q → (r.next ≡ q.next) × (r.end ≡ q.end)
left-first s k r q (free next ends) (free other other-ends) =
    let below : r.next ≤ q.next = next.first q.next (omega arith) other.cell in
    let above : q.next ≤ r.next = other.first r.next (omega arith) next.cell in
    (omega arith, omega arith)
left-first s k r q (free next ends) (full none other-starts other-ends) = absurd (none r.next (omega arith) next.cell)
left-first s k r q (full none starts ends) (free other other-ends) = absurd (none q.next (omega arith) other.cell)
left-first s k r q (full none starts ends) (full also other-starts other-ends) = (omega arith, omega arith)

tail-first : (s : HeapState) (k : ℕ) (r q : Region) → IsTailLeft s k r → IsTailLeft s k q → (r.next ≡ q.next) × (r.end ≡ q.end)
tail-first s k r q is other = (tail-unique s k r.next q.next is.tail other.tail, is.end ∙ sym other.end)

pub region-one : (fill : Kind) → FillsTailsOrCells fill → (s : HeapState) (k : ℕ) (r q : Region) → IsRegionIn fill s k r → IsRegionIn fill s k q → (r.next ≡ q.next) × (r.end ≡ q.end)
region-one kinds.Bump fills s k r q is other = tail-first s k r q is other
region-one kinds.Young fills s k r q is other = tail-first s k r q is other
region-one kinds.Cells fills s k r q is other = left-first s k r q is other
region-one kinds.Free fills s k r q is other = absurd is
region-one kinds.Mature fills s k r q is other = absurd is
region-one kinds.Immix fills s k r q is other = absurd (no-lines fills)
region-one kinds.LargeHead fills s k r q is other = absurd is
region-one kinds.LargeTail fills s k r q is other = absurd is
region-one kinds.Kept fills s k r q is other = absurd is

-- a block whose region begins later has an object
abbrev HasObject : HeapState → ℕ → Type 0
HasObject s k = (a : ℕ) × IsHeld s a × (block_at s.blocks a ≡ k)

first-cell : (s : HeapState) (k : ℕ) → (IsTrue (is_start s (block_start s.blocks k + 0)) → ⊥) → IsFreeCell s k 0
first-cell s k none = record { index = 0; start = omega arith; inside = (let few : cell_words (class_at s k) ≤ 2048 = most-cell (class_at s k) in omega arith); free = none }

cell-object : (s : HeapState) (k : ℕ) → k < s.blocks → (IsFreeCell s k 0 → ⊥) → HasObject s k
cell-object s k there taken =
    let b : ℕ = s.blocks in
    elim (cases_Bool (is_start s (block_start s.blocks k + 0))) as (λ _. HasObject s k) [
      | inl is ↦ (block_start s.blocks k + 0, record { address = record { from = omega arith; below = omega arith }; start = is }, omega arith)
      | inr not ↦ absurd (taken (first-cell s k (λ is. let wrong : true ≡ false = sym is ∙ not in cc)))
    ]

left-some : (s : HeapState) (k : ℕ) (r : Region) → k < s.blocks → IsCellLeft s k 0 r → 0 < r.next → HasObject s k
left-some s k r there (free next ends) later = cell-object s k there (λ cell. let first : r.next ≤ 0 = next.first 0 (omega arith) cell in omega arith)
left-some s k r there (full none starts ends) later = cell-object s k there (λ cell. none 0 (omega arith) cell)

tail-some : (s : HeapState) (k : ℕ) (r : Region) → IsTailLeft s k r → 0 < r.next → HasObject s k
tail-some s k r is later = elim is.tail.least as (λ _. HasObject s k) [
  | inl none ↦ absurd (omega arith)
  | inr last ↦ (last.0, last.1, last.2)
]

pub region-some : (fill : Kind) → FillsTailsOrCells fill → (s : HeapState) (k : ℕ) (r : Region) → k < s.blocks → IsRegionIn fill s k r → 0 < r.next → (a : ℕ) × IsHeld s a × (block_at s.blocks a ≡ k)
region-some kinds.Bump fills s k r there is later = tail-some s k r is later
region-some kinds.Young fills s k r there is later = tail-some s k r is later
region-some kinds.Cells fills s k r there is later = left-some s k r there is later
region-some kinds.Free fills s k r there is later = absurd is
region-some kinds.Mature fills s k r there is later = absurd is
region-some kinds.Immix fills s k r there is later = absurd (no-lines fills)
region-some kinds.LargeHead fills s k r there is later = absurd is
region-some kinds.LargeTail fills s k r there is later = absurd is
region-some kinds.Kept fills s k r there is later = absurd is

-- the first hole with room is the region
tail-part : (s : HeapState) (k size : ℕ) (r : Region) → IsTailPart s k 0 r.next r.end → r.next + size ≤ r.end → IsTailLeft s k r
tail-part s k size r part room =
    let starts : r.next ≡ max part.begin 0 = part.starts in
    let begins : part.begin ≡ r.next = omega arith in
    record { tail = subst (IsTail s k) begins part.tail; inside = omega arith; end = part.ends }

cell-part : (s : HeapState) (k size : ℕ) (r : Region) → IsFirstPart kinds.Cells s k 0 size r → IsCellLeft s k 0 r
cell-part s k size r is =
    let part : IsCellPart s k 0 size r.next r.end = is.hole.part.1 in
    free (record {
      cell = part.cell;
      after = omega arith;
      first = λ x from cell. is.first x (x + cell_words (class_at s k)) (record {
        part = (is.hole.part.0, record { class = part.class; cell = cell; after = from; ends = refl });
        room = (let fits : size ≤ cell_words (class_at s k) = class-room size (class_at s k) part.class in omega arith);
      });
    }) part.ends

pub hole-region : (fill : Kind) → FillsHoles fill → (s : HeapState) (k size : ℕ) (r : Region) → (fill ≡ kinds.Immix → LineBitsAreExact s k) → IsFirstPart fill s k 0 size r → IsRegionIn fill s k r
hole-region kinds.Bump fills s k size r exact is = tail-part s k size r is.hole.part.1 is.hole.room
hole-region kinds.Young fills s k size r exact is = tail-part s k size r is.hole.part.1 is.hole.room
hole-region kinds.Cells fills s k size r exact is = cell-part s k size r is
hole-region kinds.Immix fills s k size r exact is = here-first s k size r (exact refl) is
hole-region kinds.Free fills s k size r exact is = absurd is.hole.part
hole-region kinds.Mature fills s k size r exact is = absurd is.hole.part
hole-region kinds.LargeHead fills s k size r exact is = absurd is.hole.part
hole-region kinds.LargeTail fills s k size r exact is = absurd is.hole.part
hole-region kinds.Kept fills s k size r exact is = absurd is.hole.part

-- and the region is a hole
pub first-hole : (fill : Kind) (s : HeapState) (k size : ℕ) (r : Region) → IsFirstPart fill s k 0 size r → HasHole fill s k r.next size
first-hole fill s k size r is = part-whole fill s k size r.next (r.end, is.hole)

-- and no hole begins before it
pub first-before : (fill : Kind) (s : HeapState) (k size : ℕ) (r : Region) → IsFirstPart fill s k 0 size r → (from : ℕ) → HasHole fill s k from size → r.next ≤ from
first-before fill s k size r is from hole = let whole = whole-part fill s k size from hole in is.first from whole.0 whole.1

-- under cells the block has the class for the size then
pub part-class : (fill : Kind) (s : HeapState) (k size : ℕ) (r : Region) → IsFirstPart fill s k 0 size r → fill ≡ kinds.Cells → class_of size ≡ Some (class_at s k)
part-class fill s k size r is cells =
    let part : HasRoomFrom kinds.Cells s k 0 size r.next r.end = subst (λ (f : Kind). HasRoomFrom f s k 0 size r.next r.end) cells is.hole in part.part.1.class

-- no first hole: no hole
pub none-first : (fill : Kind) (s : HeapState) (k size : ℕ) → IsFirstHole fill s k 0 size None → (at : ℕ) → HasHole fill s k at size → ⊥
none-first fill s k size none at hole = let whole = whole-part fill s k size at hole in none at whole.0 whole.1

-- the region of a clear block
or_first : (a b c : Bool) → IsTrue a → IsTrue (a || b || c)
or_first true b c is = refl
or_first false b c is = absurd (let wrong : false ≡ true = is in cc)

clear-tail : (s : HeapState) (k : ℕ) → IsClear s k → IsTailLeft s k (record { next = 0; end = 4096 })
clear-tail s k clear = record {
  tail = record {
    after = λ a holds here. absurd (clear.marks a here (or_first (is_start s a) (is_pinned s a) (is_unlogged s a) holds.start));
    least = inl refl;
  };
  inside = omega arith;
  end = refl;
}

pub clear-region : (fill : Kind) → FillsTails fill → (s : HeapState) (k : ℕ) → IsClear s k → IsRegionIn fill s k (record { next = 0; end = 4096 })
clear-region fill (inl bump) s k clear = subst (λ (f : Kind). IsRegionIn f s k (record { next = 0; end = 4096 })) (sym bump) (clear-tail s k clear)
clear-region fill (inr young) s k clear = subst (λ (f : Kind). IsRegionIn f s k (record { next = 0; end = 4096 })) (sym young) (clear-tail s k clear)

pub clear-cells : (s : HeapState) (k : ℕ) → IsClear s k → IsRegionIn kinds.Cells s k (record { next = 0; end = cell_words (class_at s k) })
clear-cells s k clear = free (record {
  cell = first-cell s k (λ is. clear.marks (block_start s.blocks k + 0) (let b : ℕ = s.blocks in omega arith)
      (or_first _ (is_pinned s (block_start s.blocks k + 0)) (is_unlogged s (block_start s.blocks k + 0)) is));
  after = omega arith;
  first = λ x from cell. from;
}) (omega arith)
