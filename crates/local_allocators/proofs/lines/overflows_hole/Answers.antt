use Rattle.std.proofs.Common.{◌≡◌, sym, ◌∙◌, ap, subst, refl, ◌-◌, ◌<◌, ◌≤◌, arith, get_or, List}
use Rattle.std.specs.Prelude.{None}
use Rattle.std.proofs.lemmas.Bool.{ltb-true, ltb-false}
use Rattle.heap_layout.specs.declared.region.Region.{Region}
use Rattle.plan_api.specs.Cursors.{RegionHasRoom}
use Rattle.block_regions.specs.declared.block_notes.BlockNote.{BlockNote}
use Rattle.local_allocators.specs.declared.local_seat.LocalSeat.{LocalSeat}
use Rattle.local_allocators.specs.MutatorRegions.{cursors_of}
use Rattle.local_allocators.specs.NotedRegions.{region_of}
use Rattle.local_allocators.specs.NotedSeats.{regions_in}
use Rattle.local_allocators.proofs.BlockReads.{option-read, block-there}
use Rattle.local_allocators.proofs.lines.overflows_hole.Goals as goal

-- the hole region that is read
hole-read : (notes : List BlockNote) (x : LocalSeat) (r : Region) → r ≡ region_of notes (get_or x.blocks 0 None) → (cursors_of (regions_in notes x)).hole ≡ r
hole-read notes x r is = ap (region_of notes) (option-read x.blocks 0) ∙ sym is

pub region_in-region-requires : goal.region_in-region-requires
region_in-region-requires c = λ k is. c.requires.seat.blocks 0 k (block-there c.args.seat.now.blocks 0 k is)

pub overflow_sub-left : goal.overflow_sub-left
overflow_sub-left c =
    subst (λ (r : Region). r.next ≤ r.end) (hole-read c.args.notes.now c.args.seat.now c.region_in-region.result c.region_in-region.ensures) c.requires.hole

pub returns-then-left-gt0-clause-yes : goal.returns-then-left-gt0-clause-yes
returns-then-left-gt0-clause-yes c = λ small.
    let region : Region = c.region_in-region.result in
    let hole = hole-read c.args.notes.now c.args.seat.now region c.region_in-region.ensures in
    let less : region.end - region.next < c.args.size = ltb-true _ _ small in
    let some : 0 < region.end - region.next = c.if-left-gt0.true in
    let above : 16 < c.args.size = omega (arith, c.if-size-le-LINE_WORDS.false) in
    record {
      over = record {
        lines = refl;
        tried = record {
          above = above;
          full = λ room. let fits : RegionHasRoom region c.args.size = subst (λ (r : Region). RegionHasRoom r c.args.size) hole room in omega (arith, fits, less, some);
        };
      };
      some = subst (λ (r : Region). r.next < r.end) (sym hole) (omega (arith, some));
    }

pub returns-then-left-gt0-clause-no : goal.returns-then-left-gt0-clause-no
returns-then-left-gt0-clause-no c = λ large is.
    let region : Region = c.region_in-region.result in
    let hole = hole-read c.args.notes.now c.args.seat.now region c.region_in-region.ensures in
    let fits : c.args.size ≤ region.end - region.next = ltb-false _ _ large in
    let some : 0 < region.end - region.next = c.if-left-gt0.true in
    let room : RegionHasRoom region c.args.size = omega (arith, fits, some) in
    is.over.tried.full (subst (λ (r : Region). RegionHasRoom r c.args.size) (sym hole) room)

pub returns-else-left-gt0-clause-no : goal.returns-else-left-gt0-clause-no
returns-else-left-gt0-clause-no c = λ none is.
    let region : Region = c.region_in-region.result in
    let hole = hole-read c.args.notes.now c.args.seat.now region c.region_in-region.ensures in
    let some : region.next < region.end = subst (λ (r : Region). r.next < r.end) hole is.some in
    let empty : region.end - region.next ≤ 0 = ltb-false _ _ none in
    omega (arith, some, empty)
