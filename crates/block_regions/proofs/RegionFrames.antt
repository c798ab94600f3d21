-- Regions and holes of a block stay while its class and its objects do, and after one object more.
use Rattle.std.proofs.Common.{◌≡◌, ◌≢◌, refl, sym, ◌∙◌, ap, subst, ℕ, ◌+◌, ◌*◌, ◌/◌, ◌%◌, ◌<◌, ◌≤◌, ◌⊎◌, inl, inr, arith, IsTrue, mul-le-mul_right, Some}
use Rattle.std.proofs.lemmas.Bool.{cases_eq, cases_lt}
use Rattle.heap_layout.specs.Zones.{block_at, offset_at, block_start, IsAddress}
use Rattle.heap_layout.specs.declared.block.Kind.{Kind}
use Rattle.heap_layout.specs.declared.block.Kind.TheVariants as kinds
use Rattle.heap_layout.specs.declared.region.Region.{Region}
use Rattle.object_model.specs.Objects.{HeapState, block_word, HasKind, class_at, is_start, IsHeld, size_at, cell_words}
use Rattle.object_model.proofs.OneKind.{kind-code, kind-from}
use Rattle.object_model.proofs.ObjectReads.{place_of_address}
use Rattle.sessions.specs.Fitting.{IsTail, IsFreeCell, HasHole}
use Rattle.block_regions.specs.Regions.{IsLinesLeft, IsTailLeft, IsCellLeft, free, full, IsRegionIn, IsRestAfter, without_first}
use Rattle.block_regions.specs.Notes.{FillsTails}
use Rattle.block_regions.proofs.BlockFrames.{SameBlock, AddsInBlock, SameLines}
use Rattle.block_regions.proofs.LineRegions.{here-as, here-after, lines-hole-as}

-- a cell begins in its block
pub cell-below : (s : HeapState) (k at : ℕ) → IsFreeCell s k at → at < 4096
cell-below s k at cell =
    let c : ℕ = cell_words (class_at s k) in
    let inside : at + c ≤ 4096 = cell.inside in
    elim (cases_lt at 4096) as (λ _. at < 4096) [
      | inl less ↦ less
      | inr past ↦ absurd (
          let none : c ≡ 0 = omega arith in
          let starts : at ≡ cell.index * c = cell.start in
          let zero : cell.index * c ≡ cell.index * 0 = ap (λ n. cell.index * n) none in
          omega arith)
    ]

-- an address by its block and offset
pub place-in : (b k at : ℕ) → k < b → at < 4096 → IsAddress b (block_start b k + at) × (block_at b (block_start b k + at) ≡ k) × (offset_at b (block_start b k + at) ≡ at)
place-in b k at there below = (record { from = omega arith; below = omega arith }, omega arith, omega arith)

pub place-of : (b x k : ℕ) → IsAddress b x → block_at b x ≡ k → x ≡ block_start b k + offset_at b x
place-of b x k address here = let place = place_of_address b x address in omega arith

pub turn-round : (s t : HeapState) (k : ℕ) → SameBlock s t k → SameBlock t s k
turn-round s t k same = record {
  there = subst (λ (b : ℕ). k < b) (sym same.blocks) same.there;
  blocks = sym same.blocks;
  word = sym same.word;
  held = λ x holds here.
      let inside : block_at s.blocks x ≡ k = subst (λ (b : ℕ). block_at b x ≡ k) same.blocks here in
      let before = same.back x holds inside in (before, sym (same.held x before inside).1);
  back = λ x holds here. (same.held x holds (subst (λ (b : ℕ). block_at b x ≡ k) same.blocks here)).0;
}

class-of : (v w : ℕ) → v % 65536 ≡ w % 65536 → v / 256 % 256 ≡ w / 256 % 256
class-of v w same = omega arith

kind-of : (v w : ℕ) → v % 65536 ≡ w % 65536 → v % 256 ≡ w % 256
kind-of v w same = omega arith

module _ (s t : HeapState) (k : ℕ) (same : SameBlock s t k) where
  pub class-as : class_at t k ≡ class_at s k
  class-as = class-of (block_word t k) (block_word s k) same.word

  pub kind-as : (kind : Kind) → HasKind s k kind → HasKind t k kind
  kind-as kind is = kind-from t k kind (subst (λ (b : ℕ). k < b) (sym same.blocks) same.there) (kind-of (block_word t k) (block_word s k) same.word ∙ kind-code s k kind is)

  pub tail-as : (at : ℕ) → IsTail s k at → IsTail t k at
  tail-as at tail = record {
    after = λ x holds here.
        let inside : block_at s.blocks x ≡ k = subst (λ (b : ℕ). block_at b x ≡ k) same.blocks here in
        let before = same.back x holds inside in
        subst (λ (b : ℕ). offset_at b x + size_at t x ≤ at) (sym same.blocks)
        (subst (λ (n : ℕ). offset_at s.blocks x + n ≤ at) (sym (same.held x before inside).1) (tail.after x before inside));
    least = elim tail.least as (λ _. (at ≡ 0) ⊎ ((x : ℕ) × IsHeld t x × (block_at t.blocks x ≡ k) × (offset_at t.blocks x + size_at t x ≡ at))) [
      | inl none ↦ inl none
      | inr last ↦ (let now = same.held last.0 last.1 last.2 in
          inr (
            last.0,
            now.0,
            subst (λ (b : ℕ). block_at b last.0 ≡ k) (sym same.blocks) last.2,
            subst (λ (b : ℕ). offset_at b last.0 + size_at t last.0 ≡ at) (sym same.blocks) (ap (λ (n : ℕ). offset_at s.blocks last.0 + n) now.1 ∙ last.3),
          ))
    ];
  }

  -- where a cell begins no object does
  start-back : (at : ℕ) → at < 4096 → IsTrue (is_start t (block_start t.blocks k + at)) → IsTrue (is_start s (block_start s.blocks k + at))
  start-back at below is =
      let place = place-in s.blocks k at same.there below in
      let x : ℕ = block_start s.blocks k + at in
      let now : IsTrue (is_start t x) = subst (λ (b : ℕ). IsTrue (is_start t (block_start b k + at))) same.blocks is in
      (same.back x (record { address = subst (λ (b : ℕ). IsAddress b x) (sym same.blocks) place.0; start = now }) place.1).start

  pub cell-as : (at : ℕ) → IsFreeCell s k at → IsFreeCell t k at
  cell-as at cell = record {
    index = cell.index;
    start = cell.start ∙ ap (λ c. cell.index * cell_words c) (sym class-as);
    inside = subst (λ (c : ℕ). at + cell_words c ≤ 4096) (sym class-as) cell.inside;
    free = λ is. cell.free (start-back at (cell-below s k at cell) is);
  }

pub cell-back : (s t : HeapState) (k : ℕ) → SameBlock s t k → (at : ℕ) → IsFreeCell t k at → IsFreeCell s k at
cell-back s t k same at cell = cell-as t s k (turn-round s t k same) at cell

left-as : (s t : HeapState) (k from : ℕ) (r : Region) → SameBlock s t k → IsCellLeft s k from r → IsCellLeft t k from r
left-as s t k from r same (free next ends) = free (record {
  cell = cell-as s t k same r.next next.cell;
  after = next.after;
  first = λ x past cell. next.first x past (cell-back s t k same x cell);
}) (ends ∙ ap (λ c. r.next + cell_words c) (sym (class-as s t k same)))
left-as s t k from r same (full none starts ends) = full (λ x past cell. none x past (cell-back s t k same x cell)) starts ends

tail-left-as : (s t : HeapState) (k : ℕ) (r : Region) → SameBlock s t k → IsTailLeft s k r → IsTailLeft t k r
tail-left-as s t k r same is = record { tail = tail-as s t k same r.next is.tail; inside = is.inside; end = is.end }

-- the region stays
pub region-as : (fill : Kind) (s t : HeapState) (k : ℕ) (r : Region) → SameBlock s t k → (fill ≡ kinds.Immix → SameLines s t k) → IsRegionIn fill s k r → IsRegionIn fill t k r
region-as kinds.Bump s t k r same lines is = tail-left-as s t k r same is
region-as kinds.Young s t k r same lines is = tail-left-as s t k r same is
region-as kinds.Cells s t k r same lines is = left-as s t k 0 r same is
region-as kinds.Free s t k r same lines is = absurd is
region-as kinds.Mature s t k r same lines is = absurd is
region-as kinds.Immix s t k r same lines is = here-as s t k same (lines refl) r is
region-as kinds.LargeHead s t k r same lines is = absurd is
region-as kinds.LargeTail s t k r same lines is = absurd is
region-as kinds.Kept s t k r same lines is = absurd is

-- and each hole
pub hole-as : (fill : Kind) (s t : HeapState) (k at size : ℕ) → SameBlock s t k → (fill ≡ kinds.Immix → SameLines s t k) → HasHole fill s k at size → HasHole fill t k at size
hole-as kinds.Bump s t k at size same lines hole = (kind-as s t k same kinds.Bump hole.0, tail-as s t k same at hole.1, hole.2)
hole-as kinds.Young s t k at size same lines hole = (kind-as s t k same kinds.Young hole.0, tail-as s t k same at hole.1, hole.2)
hole-as kinds.Cells s t k at size same lines hole =
    (kind-as s t k same kinds.Cells hole.0, cell-as s t k same at hole.1, hole.2 ∙ ap (λ c. Some c) (sym (class-as s t k same)))
hole-as kinds.Immix s t k at size same lines hole = lines-hole-as s t k at size (kind-as s t k same kinds.Immix hole.0) (lines refl) hole
hole-as kinds.Free s t k at size same lines hole = hole
hole-as kinds.Mature s t k at size same lines hole = hole
hole-as kinds.LargeHead s t k at size same lines hole = hole
hole-as kinds.LargeTail s t k at size same lines hole = hole
hole-as kinds.Kept s t k at size same lines hole = hole

module _ (s t : HeapState) (k at size : ℕ) (adds : AddsInBlock s t k at size) where
  abbrev a : ℕ
  a = block_start s.blocks k + at

  place : IsAddress s.blocks a × (block_at s.blocks a ≡ k) × (offset_at s.blocks a ≡ at)
  place = place-in s.blocks k at adds.there adds.below

  class-same : class_at t k ≡ class_at s k
  class-same = class-of (block_word t k) (block_word s k) adds.word

  kind-before : (kind : Kind) → HasKind t k kind → HasKind s k kind
  kind-before kind is = kind-from s k kind adds.there (kind-of (block_word s k) (block_word t k) (sym adds.word) ∙ kind-code t k kind is)

  ends : offset_at s.blocks a + size_at t a ≡ at + size
  ends = let starts : offset_at s.blocks a ≡ at = place.2 in let same : size_at t a ≡ size = adds.words in omega arith

  -- the tail begins after it
  tail-born : IsTail s k at → IsTail t k (at + size)
  tail-born tail = record {
    after = λ x holds here.
        let inside : block_at s.blocks x ≡ k = subst (λ (b : ℕ). block_at b x ≡ k) adds.blocks here in
        subst (λ (b : ℕ). offset_at b x + size_at t x ≤ at + size) (sym adds.blocks) (elim (adds.back x holds inside) as (λ _. offset_at s.blocks x + size_at t x ≤ at + size) [
          | inl own ↦ subst (λ (q : ℕ). offset_at s.blocks q + size_at t q ≤ at + size) (sym own) (let e = ends in omega arith)
          | inr old ↦ (let past : offset_at s.blocks x + size_at s x ≤ at = tail.after x old inside in
              let same : size_at t x ≡ size_at s x = (adds.held x old inside).1 in omega arith)
        ]);
    least = inr (a, adds.born, subst (λ (b : ℕ). block_at b a ≡ k) (sym adds.blocks) place.1, subst (λ (b : ℕ). offset_at b a + size_at t a ≡ at + size) (sym adds.blocks) ends);
  }

  -- no tail begins before it ends
  tail-past : (from : ℕ) → IsTail t k from → at + size ≤ from
  tail-past from tail =
      let past : offset_at t.blocks a + size_at t a ≤ from = tail.after a adds.born (subst (λ (b : ℕ). block_at b a ≡ k) (sym adds.blocks) place.1) in
      let same : offset_at t.blocks a ≡ offset_at s.blocks a = ap (λ (b : ℕ). offset_at b a) adds.blocks in
      let end = ends in omega arith

  -- a cell that is free now was free, and is another one
  cell-before : (from : ℕ) → IsFreeCell t k from → IsFreeCell s k from
  cell-before from cell = record {
    index = cell.index;
    start = cell.start ∙ ap (λ c. cell.index * cell_words c) class-same;
    inside = subst (λ (c : ℕ). from + cell_words c ≤ 4096) class-same cell.inside;
    free = λ is.
        let spot = place-in s.blocks k from adds.there (cell-below t k from cell) in
        let x : ℕ = block_start s.blocks k + from in
        cell.free (subst (λ (b : ℕ). IsTrue (is_start t (block_start b k + from))) (sym adds.blocks) (adds.held x (record { address = spot.0; start = is }) spot.1).0.start);
  }

  cell-other : (from : ℕ) → IsFreeCell t k from → from ≢ at
  cell-other from cell same = cell.free (subst (λ (b : ℕ). IsTrue (is_start t (block_start b k + from))) (sym adds.blocks)
      (subst (λ (o : ℕ). IsTrue (is_start t (block_start s.blocks k + o))) (sym same) adds.born.start))

  -- any other cell that was free is free
  cell-after : (from : ℕ) → from ≢ at → IsFreeCell s k from → IsFreeCell t k from
  cell-after from other cell = record {
    index = cell.index;
    start = cell.start ∙ ap (λ c. cell.index * cell_words c) (sym class-same);
    inside = subst (λ (c : ℕ). from + cell_words c ≤ 4096) (sym class-same) cell.inside;
    free = λ is.
        let spot = place-in s.blocks k from adds.there (cell-below s k from cell) in
        let x : ℕ = block_start s.blocks k + from in
        let now : IsTrue (is_start t x) = subst (λ (b : ℕ). IsTrue (is_start t (block_start b k + from))) adds.blocks is in
        elim (adds.back x (record { address = subst (λ (b : ℕ). IsAddress b x) (sym adds.blocks) spot.0; start = now }) spot.1) as (λ _. ⊥) [
          | inl own ↦ other (omega arith)
          | inr old ↦ cell.free old.start
        ];
  }

  -- the next one begins where it ends or later
  cell-past : (c index from other : ℕ) → at ≡ index * c → from ≡ other * c → at ≤ from → from ≢ at → at + c ≤ from
  cell-past c index from other starts other-starts upto differs = elim (cases_lt index other) as (λ _. at + c ≤ from) [
    | inl less ↦ (let more = mul-le-mul_right {m = index + 1} {n = other} c (omega (arith, less)) in let e : (index + 1) * c ≡ index * c + c = omega arith in omega arith)
    | inr past ↦ elim (cases_eq other index) as (λ _. at + c ≤ from) [
      | inl same ↦ absurd (differs (other-starts ∙ ap (λ n. n * c) same ∙ sym starts))
      | inr away ↦ absurd (let more = mul-le-mul_right {m = other + 1} {n = index} c (omega (arith, past, away)) in
          let e : (other + 1) * c ≡ other * c + c = omega arith in let not : from ≢ at = differs in omega arith)
    ]
  ]

  -- what is left of the cells
  left-born : (r rest : Region) → r.next ≡ at → at + size ≤ r.end → IsCellLeft s k 0 r → IsCellLeft s k r.end rest → IsCellLeft t k 0 rest
  left-born r rest begins room (full none starts end) left = absurd (let some : 1 ≤ size = adds.some in omega arith)
  left-born r rest begins room (free next end) left = of-left left
    where
      c : ℕ
      c = cell_words (class_at s k)

      later : (x : ℕ) → IsFreeCell t k x → r.end ≤ x
      later x cell =
          let was = cell-before x cell in
          let upto : r.next ≤ x = next.first x (omega arith) was in
          let starts : at ≡ next.cell.index * c = sym begins ∙ next.cell.start in
          let past : at + c ≤ x = cell-past c next.cell.index x was.index starts was.start (omega arith) (cell-other x cell) in
          omega arith

      of-left : IsCellLeft s k r.end rest → IsCellLeft t k 0 rest
      of-left (free more upto) =
          let after : r.end ≤ rest.next = more.after in
          let some : 1 ≤ size = adds.some in
          free (record {
            cell = cell-after rest.next (λ same. omega arith) more.cell;
            after = omega arith;
            first = λ x from cell. more.first x (later x cell) (cell-before x cell);
          }) (upto ∙ ap (λ n. rest.next + cell_words n) (sym class-same))
      of-left (full none starts upto) = full (λ x from cell. none x (later x cell) (cell-before x cell)) starts upto

  tail-rest : (r rest : Region) → r.next ≡ at → at + size ≤ r.end → IsTailLeft s k r → rest ≡ without_first size r → IsTailLeft t k rest
  tail-rest r rest begins room is left = subst (IsTailLeft t k) (sym left) (record {
    tail = subst (λ (n : ℕ). IsTail t k (n + size)) (sym begins) (tail-born (subst (IsTail s k) begins is.tail));
    inside = omega arith;
    end = is.end;
  })

  -- what the object at the start of a region leaves is the region then
  pub region-born : (fill : Kind) (r rest : Region) → r.next ≡ at → at + size ≤ r.end → (fill ≡ kinds.Immix → SameLines s t k) → IsRegionIn fill s k r → IsRestAfter fill s k size r rest → IsRegionIn fill t k rest
  region-born kinds.Bump r rest begins room lines is left = tail-rest r rest begins room is left
  region-born kinds.Young r rest begins room lines is left = tail-rest r rest begins room is left
  region-born kinds.Cells r rest begins room lines is left = left-born r rest begins room is left
  region-born kinds.Free r rest begins room lines is left = absurd is
  region-born kinds.Mature r rest begins room lines is left = absurd is
  region-born kinds.Immix r rest begins room lines is left =
      subst (λ (q : Region). IsLinesLeft t k q) (sym left)
      (here-after s t k at size adds (lines refl) r begins (subst (λ (n : ℕ). n + size ≤ r.end) (sym begins) room) is)
  region-born kinds.LargeHead r rest begins room lines is left = absurd is
  region-born kinds.LargeTail r rest begins room lines is left = absurd is
  region-born kinds.Kept r rest begins room lines is left = absurd is

  -- where there is a hole, there was one, if the object lies at the start of the tail or in a cell
  pub hole-born : (fill : Kind) → (fill ≡ kinds.Immix → SameLines s t k) → (FillsTails fill → IsTail s k at) → (from n : ℕ) → HasHole fill t k from n → (was : ℕ) × HasHole fill s k was n
  hole-born kinds.Bump lines tail from n hole =
      let past = tail-past from hole.1 in let room : from + n ≤ 4096 = hole.2 in
      (at, (kind-before kinds.Bump hole.0, tail (inl refl), omega arith))
  hole-born kinds.Young lines tail from n hole =
      let past = tail-past from hole.1 in let room : from + n ≤ 4096 = hole.2 in
      (at, (kind-before kinds.Young hole.0, tail (inr refl), omega arith))
  hole-born kinds.Cells lines tail from n hole = (from, (kind-before kinds.Cells hole.0, cell-before from hole.1, hole.2 ∙ ap (λ c. Some c) class-same))
  hole-born kinds.Immix lines tail from n hole = (from, lines-hole-as t s k from n (kind-before kinds.Immix hole.0) (λ line few. sym (lines refl line few)) hole)
  hole-born kinds.Free lines tail from n hole = absurd hole
  hole-born kinds.Mature lines tail from n hole = absurd hole
  hole-born kinds.LargeHead lines tail from n hole = absurd hole
  hole-born kinds.LargeTail lines tail from n hole = absurd hole
  hole-born kinds.Kept lines tail from n hole = absurd hole

-- the tail that a hole or a region begins
pub hole-tail : (fill : Kind) (s : HeapState) (k at size : ℕ) → HasHole fill s k at size → FillsTails fill → IsTail s k at
hole-tail fill s k at size hole (inl bump) = (subst (λ (f : Kind). HasHole f s k at size) bump hole).1
hole-tail fill s k at size hole (inr young) = (subst (λ (f : Kind). HasHole f s k at size) young hole).1

pub region-tail : (fill : Kind) (s : HeapState) (k : ℕ) (r : Region) → IsRegionIn fill s k r → FillsTails fill → IsTailLeft s k r
region-tail fill s k r is (inl bump) = subst (λ (f : Kind). IsRegionIn f s k r) bump is
region-tail fill s k r is (inr young) = subst (λ (f : Kind). IsRegionIn f s k r) young is
