-- Notes on blocks stay right while blocks and the extents of objects stay; holes that are too small for a note.
use Rattle.std.proofs.Common.{◌≡◌, refl, sym, ◌∙◌, ap, subst, ℕ, ◌+◌, ◌/◌, ◌%◌, ◌<◌, ◌≤◌, inl, inr, arith, List}
use Rattle.std.specs.Prelude.{None}
use Rattle.heap_layout.specs.declared.block.Kind.{Kind}
use Rattle.heap_layout.specs.declared.block.Kind.TheVariants as kinds
use Rattle.object_model.specs.Objects.{HeapState, with_words, block_word, has_kind, HasKind, class_at, owner_at, line_marked, IsHeld, size_at}
use Rattle.object_model.proofs.Frames as frames
use Rattle.object_model.proofs.OneKind.{kind-within}
use Rattle.sessions.specs.Fitting.{HasHole, class_for}
use Rattle.plan_api.specs.Holes.{IsFirstHole}
use Rattle.block_regions.specs.declared.block_notes.BlockNote.{BlockNote}
use Rattle.block_regions.specs.declared.block_notes.BlockNote.TheVariants.{Unowned, Owned}
use Rattle.block_regions.specs.Notes.{FillsTails, FillsHoles, IsBlockNote, HasNotes}
use Rattle.block_regions.proofs.Lists.{get-below}
use Rattle.block_regions.proofs.Regions.{hole-kind, no-class, fills-cases, none-first, suits-class}
use Rattle.block_regions.proofs.BlockFrames.{SameBlock, SameLines}
use Rattle.block_regions.proofs.RegionFrames.{turn-round, kind-as, region-as, hole-as}

-- a block with the same word and objects, and where mutators fill lines with the same line bits, keeps its note
pub note-kept : (fill : Kind) (s t : HeapState) (k : ℕ) (note : BlockNote) → SameBlock s t k → block_word t k ≡ block_word s k → (fill ≡ kinds.Immix → SameLines s t k)
    → IsBlockNote fill s k note → IsBlockNote fill t k note
note-kept fill s t k (Unowned least) same word lines is = record {
  owner = ap (λ v. v / 65536) word ∙ is.owner;
  none = λ at size most hole. is.none at size most (hole-as fill t s k at size (turn-round s t k same) (λ immix line few. sym (lines immix line few)) hole);
}
note-kept fill s t k (Owned owner region) same word lines is = record {
  some = is.some;
  owner = ap (λ v. v / 65536) word ∙ is.owner;
  kind = kind-as s t k same fill is.kind;
  left = region-as fill s t k region same lines is.left;
}

-- the blocks have the same words, and the same objects begin there, of the same sizes
pub record KeepsBlocks (s : HeapState) (w : List ℕ) : Type 0 where
  pub words : (k : ℕ) → k < s.blocks → block_word (with_words s w) k ≡ block_word s k
  pub after : (x : ℕ) → IsHeld s x → IsHeld (with_words s w) x
  pub before : (x : ℕ) → IsHeld (with_words s w) x → IsHeld s x
  pub sizes : (x : ℕ) → IsHeld s x → size_at (with_words s w) x ≡ size_at s x
  pub lines : (k line : ℕ) → k < s.blocks → line < 256 → line_marked (with_words s w) k line ≡ line_marked s k line

module _ (s : HeapState) (w : List ℕ) (keeps : KeepsBlocks s w) where
  abbrev t : HeapState
  t = with_words s w

  pub kind-same : (k : ℕ) (kind : Kind) → has_kind t k kind ≡ has_kind s k kind
  kind-same = frames.has_kind-same s w keeps.words

  pub same-block : (k : ℕ) → k < s.blocks → SameBlock s t k
  same-block k there = record {
    there = there;
    blocks = refl;
    word = ap (λ v. v % 65536) (keeps.words k there);
    held = λ x holds here. (keeps.after x holds, keeps.sizes x holds);
    back = λ x holds here. keeps.before x holds;
  }

  pub hole-before : (fill : Kind) → FillsHoles fill → (k at size : ℕ) → HasHole fill t k at size → HasHole fill s k at size
  hole-before fill fills k at size hole =
      let there = kind-within t k fill (hole-kind fill t k at size hole) in
      hole-as fill t s k at size (turn-round s t k (same-block k there)) (λ lines line few. sym (keeps.lines k line there few)) hole

  pub hole-after : (fill : Kind) → FillsHoles fill → (k at size : ℕ) → HasHole fill s k at size → HasHole fill t k at size
  hole-after fill fills k at size hole =
      let there = kind-within s k fill (hole-kind fill s k at size hole) in
      hole-as fill s t k at size (same-block k there) (λ lines line few. keeps.lines k line there few) hole

  pub note-after : (fill : Kind) → FillsHoles fill → (k : ℕ) (note : BlockNote) → k < s.blocks → IsBlockNote fill s k note → IsBlockNote fill t k note
  note-after fill fills k note there is = note-kept fill s t k note (same-block k there) (keeps.words k there) (λ lines line few. keeps.lines k line there few) is

  pub notes-after : (fill : Kind) → FillsHoles fill → (notes : List BlockNote) → HasNotes fill s notes → HasNotes fill t notes
  notes-after fill fills notes is = record {
    len = is.len;
    each = λ k note some. note-after fill fills k note (subst (λ n. k < n) is.len (get-below notes k note some)) (is.each k note some);
  }

-- no hole is larger than a block
pub small-hole : (fill : Kind) (s : HeapState) (k at size : ℕ) → 4097 ≤ size → HasHole fill s k at size → ⊥
small-hole kinds.Bump s k at size most hole = let room : at + size ≤ 4096 = hole.2 in omega arith
small-hole kinds.Young s k at size most hole = let room : at + size ≤ 4096 = hole.2 in omega arith
small-hole kinds.Cells s k at size most hole = no-class size (class_at s k) (omega arith) hole.2
small-hole kinds.Immix s k at size most hole = let inside : hole.1.line + hole.1.len ≤ 256 = hole.1.hole.inside in
    let room : (size + 15) / 16 ≤ hole.1.len = hole.1.room in omega arith
small-hole kinds.Free s k at size most hole = hole
small-hole kinds.Mature s k at size most hole = hole
small-hole kinds.LargeHead s k at size most hole = hole
small-hole kinds.LargeTail s k at size most hole = hole
small-hole kinds.Kept s k at size most hole = hole

-- the note of a block of which nothing is known
pub note-unknown : (fill : Kind) (s : HeapState) (k : ℕ) → owner_at s k ≡ 0 → IsBlockNote fill s k (Unowned 4097)
note-unknown fill s k nobody = record { owner = nobody; none = λ at size most hole. small-hole fill s k at size most hole }

-- a tail with room has room for fewer words
hole-less : (fill : Kind) → FillsTails fill → (s : HeapState) (k at size less : ℕ) → less ≤ size → HasHole fill s k at size → HasHole fill s k at less
hole-less fill fills s k at size less most = elim fills as (λ _. HasHole fill s k at size → HasHole fill s k at less) [
  | inl bump ↦ subst (λ (f : Kind). HasHole f s k at size → HasHole f s k at less) (sym bump) (λ hole. (hole.0, hole.1, (let room : at + size ≤ 4096 = hole.2 in omega arith)))
  | inr young ↦ subst (λ (f : Kind). HasHole f s k at size → HasHole f s k at less) (sym young) (λ hole. (hole.0, hole.1, (let room : at + size ≤ 4096 = hole.2 in omega arith)))
]

-- a hole of lines with room has room for fewer words
lines-less : (s : HeapState) (k at size less : ℕ) → less ≤ size → HasHole kinds.Immix s k at size → HasHole kinds.Immix s k at less
lines-less s k at size less most hole = (
  hole.0,
  record {
    line = hole.1.line;
    len = hole.1.len;
    start = hole.1.start;
    hole = hole.1.hole;
    room = (let room : (size + 15) / 16 ≤ hole.1.len = hole.1.room in omega arith);
  },
)

-- a block of cells for the smaller size has no hole for more words either
no-cell : (s : HeapState) (k least : ℕ) → 1 ≤ least → least ≤ 2048 → (HasKind s k kinds.Cells → class_at s k ≡ class_for kinds.Cells least) → IsFirstHole kinds.Cells s k 0 least None
    → (at size : ℕ) → HasHole kinds.Cells s k at size → ⊥
no-cell s k least some small suits none at size hole =
    none-first kinds.Cells s k least none at (hole.0, hole.1, (suits-class s k least some small (suits hole.0)).class)

-- A block that has no first hole for a size has no hole for as many words or more, if its class is the size's.
pub no-hole : (fill : Kind) → FillsHoles fill → (s : HeapState) (k least : ℕ) → 1 ≤ least → least ≤ 2048 → (HasKind s k fill → class_at s k ≡ class_for fill least)
    → IsFirstHole fill s k 0 least None → (at size : ℕ) → least ≤ size → HasHole fill s k at size → ⊥
no-hole fill fills s k least some small suits none at size most hole = elim (fills-cases fill fills) as (λ _. ⊥) [
  | inl (inl tails) ↦ none-first fill s k least none at (hole-less fill tails s k at size least most hole)
  | inl (inr cells) ↦ no-cell s k least some small
      (subst (λ (f : Kind). HasKind s k f → class_at s k ≡ class_for f least) cells suits) (subst (λ (f : Kind). IsFirstHole f s k 0 least None) cells none)
      at size (subst (λ (f : Kind). HasHole f s k at size) cells hole)
  | inr lines ↦ none-first kinds.Immix s k least (subst (λ (f : Kind). IsFirstHole f s k 0 least None) lines none) at
      (lines-less s k at size least most (subst (λ (f : Kind). HasHole f s k at size) lines hole))
]
