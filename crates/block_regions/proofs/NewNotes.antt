-- Notes on blocks are right after one object more, at the start of the region of an owned block.
use Rattle.std.proofs.Common.{◌≡◌, ◌≢◌, refl, sym, ◌∙◌, ap, subst, ℕ, ◌+◌, ◌/◌, ◌%◌, ◌<◌, ◌≤◌, ◌⊎◌, inl, inr, arith, List}
use Rattle.std.specs.Prelude.{Some, slice_get}
use Rattle.std.proofs.lemmas.Bool.{cases_eq}
use Rattle.heap_layout.specs.Zones.{block_at, offset_at, block_start}
use Rattle.heap_layout.specs.declared.block.Kind.{Kind}
use Rattle.heap_layout.specs.declared.region.Region.{Region}
use Rattle.ideal_heap.specs.declared.name.Name.{Name}
use Rattle.object_model.specs.Objects.{HeapState, with_words, block_word, line_marked, HasKind, IsHeld, size_at, size_of}
use Rattle.object_model.specs.Births.{IsVacant}
use Rattle.object_model.proofs.Births as births
use Rattle.object_model.proofs.Births.{Adds}
use Rattle.object_model.proofs.Frames as frames
use Rattle.object_model.proofs.OneKind.{kind-within}
use Rattle.sessions.specs.Fitting.{IsTail, HasHole}
use Rattle.block_regions.specs.declared.block_notes.BlockNote.{BlockNote}
use Rattle.block_regions.specs.declared.block_notes.BlockNote.TheVariants.{Unowned, Owned}
use Rattle.block_regions.specs.Elements.{ChangesAt}
use Rattle.block_regions.specs.Regions.{IsRestAfter}
use Rattle.block_regions.specs.Notes.{FillsTails, FillsHoles, IsBlockNote, IsOwnedNote, HasNotes}
use Rattle.block_regions.proofs.Lists.{get-below, one-element}
use Rattle.block_regions.proofs.Regions.{hole-kind}
use Rattle.block_regions.proofs.BlockFrames.{SameBlock, AddsInBlock}
use Rattle.block_regions.proofs.RegionFrames.{turn-round, region-as, hole-as, region-born, hole-born, place-of}

module _ (s : HeapState) (w : List ℕ) (a : ℕ) (n : Name) (refs nums : ℕ) (adds : Adds s w a n refs nums) (vacant : IsVacant s a n refs nums)
    (words : (k : ℕ) → k < s.blocks → block_word (with_words s w) k ≡ block_word s k)
    (lines : (k line : ℕ) → k < s.blocks → line < 256 → line_marked (with_words s w) k line ≡ line_marked s k line) where
  abbrev t : HeapState
  t = with_words s w

  held-cases : (x : ℕ) → IsHeld t x → (x ≡ a) ⊎ IsHeld s x
  held-cases = births.held-cases s w a n refs nums adds vacant

  held-same : (x : ℕ) → IsHeld s x → IsHeld t x × (size_at t x ≡ size_at s x)
  held-same x holds = (births.held-after s w a n refs nums adds vacant x holds, births.size-same s w a n refs nums adds vacant x holds)

  -- the block of the object
  pub adds-in-block : (block at : ℕ) → block < s.blocks → block_at s.blocks a ≡ block → offset_at s.blocks a ≡ at → AddsInBlock s t block at (size_of refs nums)
  adds-in-block block at there here offset =
      let place : a ≡ block_start s.blocks block + at = place-of s.blocks a block vacant.address here ∙ ap (λ o. block_start s.blocks block + o) offset in
      record {
        there = there;
        blocks = refl;
        word = ap (λ v. v % 65536) (words block there);
        below = omega arith;
        some = omega arith;
        born = subst (IsHeld t) place (births.held-new s w a n refs nums adds vacant);
        words = subst (λ (x : ℕ). size_at t x ≡ size_of refs nums) place (births.new-size s w a n refs nums adds vacant);
        held = λ x holds inside. held-same x holds;
        back = λ x holds inside. subst (λ (q : ℕ). (x ≡ q) ⊎ IsHeld s x) place (held-cases x holds);
      }

  module _ (block next : ℕ) (here : block_at s.blocks a ≡ block) (offset : offset_at s.blocks a ≡ next) where
    -- any other block
    pub same-block : (k : ℕ) → k ≢ block → k < s.blocks → SameBlock s t k
    same-block k other there = record {
      there = there;
      blocks = refl;
      word = ap (λ v. v % 65536) (words k there);
      held = λ x holds inside. held-same x holds;
      back = λ x holds inside. elim (held-cases x holds) as (λ _. IsHeld s x) [
        | inl e ↦ absurd (other (sym inside ∙ ap (block_at s.blocks) e ∙ here))
        | inr old ↦ old
      ];
    }

    pub kind-same : (k : ℕ) (kind : Kind) → HasKind t k kind → HasKind s k kind
    kind-same = frames.HasKind-back s w words

    -- where there is a hole, there was one
    pub hole-back : (fill : Kind) → FillsHoles fill → (FillsTails fill → IsTail s block next) → (k at size : ℕ) → HasHole fill t k at size → (from : ℕ) × HasHole fill s k from size
    hole-back fill fills tail k at size hole =
        let there : k < s.blocks = kind-within t k fill (hole-kind fill t k at size hole) in
        elim (cases_eq k block) as (λ _. (from : ℕ) × HasHole fill s k from size) [
          | inr other ↦ (at, hole-as fill t s k at size (turn-round s t k (same-block k other there)) (λ is line few. sym (lines k line there few)) hole)
          | inl own ↦ (
              let inside : block < s.blocks = subst (λ (q : ℕ). q < s.blocks) own there in
              let was = hole-born s t block next (size_of refs nums) (adds-in-block block next inside here offset) fill
              (λ is line few. lines block line inside few) tail at size
              (subst (λ (q : ℕ). HasHole fill t q at size) own hole) in
              (was.0, subst (λ (q : ℕ). HasHole fill s q was.0 size) (sym own) was.1))
        ]

    note-other : (fill : Kind) → FillsHoles fill → (k : ℕ) (note : BlockNote) → k ≢ block → k < s.blocks → IsBlockNote fill s k note → IsBlockNote fill t k note
    note-other fill fills k (Unowned least) other there is = record {
      owner = ap (λ v. v / 65536) (words k there) ∙ is.owner;
      none = λ at size most hole. is.none at size most (hole-as fill t s k at size (turn-round s t k (same-block k other there)) (λ is line few. sym (lines k line there few)) hole);
    }
    note-other fill fills k (Owned owner region) other there is = record {
      some = is.some;
      owner = ap (λ v. v / 65536) (words k there) ∙ is.owner;
      kind = frames.HasKind-from s w words k fill is.kind;
      left = region-as fill s t k region (same-block k other there) (λ is line few. lines k line there few) is.left;
    }

    pub notes-new : (fill : Kind) → FillsHoles fill → (notes later : List BlockNote) (number : ℕ) (region rest : Region) → HasNotes fill s notes
        → slice_get notes block ≡ Some (Owned number region) → region.next ≡ next → next + size_of refs nums ≤ region.end
        → IsRestAfter fill s block (size_of refs nums) region rest → ChangesAt notes later block (Owned number rest) → HasNotes fill t later
    notes-new fill fills notes later number region rest is was begins room left changes = record { len = changes.len ∙ is.len; each = each }
      where
        old : IsOwnedNote fill s block number region
        old = is.each block (Owned number region) was

        there : block < s.blocks
        there = subst (λ q. block < q) is.len (get-below notes block (Owned number region) was)

        own : IsBlockNote fill t block (Owned number rest)
        own = record {
          some = old.some;
          owner = ap (λ v. v / 65536) (words block there) ∙ old.owner;
          kind = frames.HasKind-from s w words block fill old.kind;
          left = region-born s t block next (size_of refs nums) (adds-in-block block next there here offset) fill region rest begins room
              (λ is line few. lines block line there few) old.left left;
        }

        each : (k : ℕ) (note : BlockNote) → slice_get later k ≡ Some note → IsBlockNote fill t k note
        each k note some = elim (cases_eq k block) as (λ _. IsBlockNote fill t k note) [
          | inl same ↦ subst (λ q. IsBlockNote fill t q note) (sym same)
              (subst (IsBlockNote fill t block) (one-element (slice_get later block) _ note changes.here (subst (λ q. slice_get later q ≡ Some note) same some)) own)
          | inr other ↦ (let before : slice_get notes k ≡ Some note = sym (changes.others k other) ∙ some in
              note-other fill fills k note other (subst (λ q. k < q) is.len (get-below notes k note before)) (is.each k note before))
        ]
