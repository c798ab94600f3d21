-- The two regions of a seat under a plan with lines, as the note of one of their blocks changes.
use Rattle.std.proofs.Common.{◌≡◌, refl, sym, ◌∙◌, ap, subst, ℕ, ◌+◌, ◌≤◌, List}
use Rattle.std.specs.Prelude.{Option, Some, None, slice_get, unwrap_or}
use Rattle.heap_layout.specs.declared.block.Kind.{Kind}
use Rattle.heap_layout.specs.declared.region.Region.{Region}
use Rattle.sessions.specs.Fitting.{class_for}
use Rattle.plan_api.specs.declared.cursors.Cursors.{Cursors}
use Rattle.plan_api.specs.Cursors.{RegionHasRoom, region_after, PlacesInHole, PlacesInOverflow}
use Rattle.local_allocators.specs.declared.local_seat.LocalSeat.{LocalSeat}
use Rattle.block_regions.specs.declared.block_notes.BlockNote.{BlockNote}
use Rattle.block_regions.specs.declared.block_notes.BlockNote.TheVariants.{Owned}
use Rattle.local_allocators.specs.Seats.{block_of, over_of}
use Rattle.block_regions.specs.Elements.{ChangesAt}
use Rattle.local_allocators.specs.MutatorRegions.{cursors_of, FillsLines, GoesOver, KeepsClass, KeepsOver, KeepsRegions}
use Rattle.local_allocators.specs.NotedRegions.{region_of, region_noted, regions_of}

-- the class of any size is 0 under lines
pub lines-for : (fill : Kind) (size : ℕ) → FillsLines fill → class_for fill size ≡ 0
lines-for fill size lines = ap (λ (f : Kind). class_for f size) lines

-- The note of one block changes: a region of another block stays, that for a class, and the overflow region.
module _ (notes later : List BlockNote) (block : ℕ) (note : BlockNote) (changes : ChangesAt notes later block note) where
  pub region-else : (o : Option ℕ) → (o ≡ Some block → ⊥) → region_of later o ≡ region_of notes o
  region-else None other = refl
  region-else (Some k) other = ap region_noted (changes.others k (λ same. other (ap (λ (j : ℕ). Some j) same)))

  module _ (seat now : Option LocalSeat) where
    pub class-else : (class : ℕ) → block_of now class ≡ block_of seat class → (block_of seat class ≡ Some block → ⊥) → KeepsClass class (regions_of notes seat) (regions_of later now)
    class-else class same other = record { block = same; region = ap (region_of later) same ∙ region-else (block_of seat class) other }

    pub over-else : over_of now ≡ over_of seat → (over_of seat ≡ Some block → ⊥) → KeepsOver (regions_of notes seat) (regions_of later now)
    over-else same other = record { block = same; region = ap (region_of later) same ∙ region-else (over_of seat) other }

-- The note of one own block changes, which has one of the two regions.
module _ (notes later : List BlockNote) (seat : Option LocalSeat) (block number size : ℕ) (region rest : Region)
    (was : slice_get notes block ≡ Some (Owned number region)) (changes : ChangesAt notes later block (Owned number rest)) where
  region-then : region_of notes (Some block) ≡ region
  region-then = ap region_noted was

  region-now : region_of later (Some block) ≡ rest
  region-now = ap region_noted changes.here

  -- the other one stays
  region-kept : (o : Option ℕ) → (o ≡ Some block → ⊥) → region_of later o ≡ region_of notes o
  region-kept = region-else notes later block (Owned number rest) changes

  abbrev cursors : Region → Region → Cursors
  cursors hole over = record {
    hole = hole;
    hole_block = unwrap_or (block_of seat 0) 0;
    over = over;
    over_block = unwrap_or (over_of seat) 0;
  }

  pub places-hole : block_of seat 0 ≡ Some block → (over_of seat ≡ Some block → ⊥) → region.next + size ≤ region.end → rest ≡ region_after region size
      → PlacesInHole (cursors_of (regions_of notes seat)) (cursors_of (regions_of later seat)) size block region.next
  places-hole is other room left =
      let hole : region_of notes (block_of seat 0) ≡ region = ap (region_of notes) is ∙ region-then in
      let now : region_of later (block_of seat 0) ≡ rest = ap (region_of later) is ∙ region-now in
      let moved : region_of later (block_of seat 0) ≡ region_after (region_of notes (block_of seat 0)) size
      = now ∙ left ∙ ap (λ (r : Region). region_after r size) (sym hole) in
      record {
        room = subst (λ (r : Region). RegionHasRoom r size) (sym hole) room;
        block = sym (ap (λ (o : Option ℕ). unwrap_or o 0) is);
        offset = ap (λ (r : Region). r.next) (sym hole);
        after = ap (λ (r : Region). cursors r (region_of later (over_of seat))) moved
            ∙ ap (λ (r : Region). cursors (region_after (region_of notes (block_of seat 0)) size) r) (region-kept (over_of seat) other);
      }

  pub places-over : over_of seat ≡ Some block → (block_of seat 0 ≡ Some block → ⊥) → region.next + size ≤ region.end → rest ≡ region_after region size
      → (fill : Kind) → GoesOver fill (regions_of notes seat) size → PlacesInOverflow (cursors_of (regions_of notes seat)) (cursors_of (regions_of later seat)) size block region.next
  places-over is other room left fill goes =
      let over : region_of notes (over_of seat) ≡ region = ap (region_of notes) is ∙ region-then in
      let now : region_of later (over_of seat) ≡ rest = ap (region_of later) is ∙ region-now in
      let moved : region_of later (over_of seat) ≡ region_after (region_of notes (over_of seat)) size
      = now ∙ left ∙ ap (λ (r : Region). region_after r size) (sym over) in
      record {
        tried = goes.tried;
        room = subst (λ (r : Region). RegionHasRoom r size) (sym over) room;
        block = sym (ap (λ (o : Option ℕ). unwrap_or o 0) is);
        offset = ap (λ (r : Region). r.next) (sym over);
        after = ap (λ (r : Region). cursors (region_of later (block_of seat 0)) r) moved
            ∙ ap (λ (r : Region). cursors r (region_after (region_of notes (over_of seat)) size)) (region-kept (block_of seat 0) other);
      }

-- the regions of a seat stay where the notes and its blocks do
pub same-keeps : (notes later : List BlockNote) (seat now : Option LocalSeat) → later ≡ notes
    → ((class : ℕ) → block_of now class ≡ block_of seat class) → over_of now ≡ over_of seat → KeepsRegions (regions_of notes seat) (regions_of later now)
same-keeps notes later seat now same blocks over = record {
  classes = λ class. record { block = blocks class; region = ap (region_of later) (blocks class) ∙ ap (λ xs. region_of xs (block_of seat class)) same };
  over = record { block = over; region = ap (region_of later) over ∙ ap (λ xs. region_of xs (over_of seat)) same };
}
