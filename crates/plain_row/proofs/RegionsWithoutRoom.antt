-- What lacks room for a size, where no region that the mutator tries for it has room.
use Rattle.std.proofs.Common.{◌≡◌, ◌≢◌, refl, sym, ◌∙◌, ap, subst, ℕ, ◌+◌, ◌<◌, ◌≤◌, ◌⊎◌, inl, inr, arith}
use Rattle.std.specs.Prelude.{Option, Some, None, slice_get}
use Rattle.std.proofs.lemmas.Bool.{cases_lt, cases_eq}
use Rattle.heap_layout.specs.declared.block.Kind.{Kind}
use Rattle.heap_layout.specs.declared.block.Kind.TheVariants as kinds
use Rattle.heap_layout.specs.declared.region.Region.{Region}
use Rattle.object_model.specs.Objects.{state_of, class_at, owner_at}
use Rattle.object_model.proofs.OneKind.{kind-within}
use Rattle.sessions.specs.Fitting.{HasHole, class_for}
use Rattle.plan_api.specs.Holes.{HasRoomFrom, IsFirstHole}
use Rattle.block_regions.proofs.Regions.{hole-kind, region-lacks, fills-cases}
use Rattle.plain_row.specs.declared.plain_row.PlainRow.{PlainRow}
use Rattle.block_regions.specs.declared.block_notes.BlockNote.TheVariants.{Unowned, Owned}
use Rattle.plain_row.specs.Rows.{number_at_turn, seat_at_turn, regions_at_turn}
use Rattle.local_allocators.specs.Seats.{block_of, over_of}
use Rattle.block_regions.specs.Notes.{IsOwnedNote, IsRegionOf}
use Rattle.local_allocators.specs.MutatorRegions.{FillsLines, cursors_of, IsBlockFor, LacksLines}
use Rattle.local_allocators.specs.NotedRegions.{region_of, region_noted}
use Rattle.plan_api.specs.Cursors.{RegionHasRoom, TriesOverflow, LacksRoom}
use Rattle.plain_row.specs.Worlds.{MayCall, RegionHasRoomFor}
use Rattle.plain_row.specs.Steps.{Lacks, IsFull}
use Rattle.block_regions.proofs.Lists.{one-element}
use Rattle.plain_row.proofs.EpochFacts as facts
use Rattle.block_regions.proofs.FilledKinds as filled_kinds
use Rattle.plain_row.proofs.Turns as turns

-- a block that nobody owns is none of the mutator's
pub no-block : (a : PlainRow) (block least number : ℕ) → slice_get a.notes.items block ≡ Some (Unowned least) → IsRegionOf a.notes.items number block → ⊥
no-block a block least number note mine = let wrong : Unowned least ≡ Owned number mine.region =
    one-element (slice_get a.notes.items block) (Unowned least) (Owned number mine.region) note mine.note in cc

unowned-lines-lack : (a : PlainRow) (block least size : ℕ) → MayCall a → slice_get a.notes.items block ≡ Some (Unowned least) → FillsLines a.fill
    → LacksLines (regions_at_turn a) (state_of a.row) size block
unowned-lines-lack a block least size ready note lines =
    let now = ready.between_calls.some in
    let hole : block_of (seat_at_turn a) 0 ≡ Some block → ⊥ = λ is. no-block a block least (number_at_turn a) note
    (turns.own-region now.epoch now.ideal now.log a now.at ready.turn 0 block is).0 in
    record {
      region = λ is. absurd (hole is);
      later = λ is. absurd (hole is);
      over = λ is. absurd (no-block a block least (number_at_turn a) note (let now = ready.between_calls.some in turns.own-over now.epoch now.ideal now.log a now.at ready.turn block lines is));
    }

-- it lacks room if it has no hole
pub unowned-lacks : (a : PlainRow) (block least size : ℕ) → MayCall a → slice_get a.notes.items block ≡ Some (Unowned least)
    → ((at : ℕ) → HasHole a.fill (state_of a.row) block at size → ⊥) → Lacks a size block
unowned-lacks a block least size ready note none = record {
  unowned = λ nobody at hole. none at hole;
  own = λ not own at hole. none at hole;
  lines = unowned-lines-lack a block least size ready note;
}

-- what it has under lines where no region that takes a size has room
module _ (a : PlainRow) (size : ℕ) (some : 1 ≤ size) (ready : MayCall a) (lines : FillsLines a.fill) where
  room-here : (block : ℕ) (region : Region) → IsBlockFor a.fill (regions_at_turn a) size block
      → slice_get a.notes.items block ≡ Some (Owned (number_at_turn a) region) → RegionHasRoom region size → RegionHasRoomFor a size
  room-here block region current note fits = record {
    turn = ready.turn;
    some = ready.between_calls.some;
    block = block;
    current = current;
    room = record { region = region; note = note; room = fits; others = λ k owner r is. inr (ready.between_calls.filled k owner r is) };
  }

  -- the hole region has room
  in-hole : (o : Option ℕ) → block_of (seat_at_turn a) 0 ≡ o → RegionHasRoom (region_of a.notes.items o) size → RegionHasRoomFor a size
  in-hole None is fits = absurd (omega (arith, fits, some))
  in-hole (Some k) is fits =
      let now = ready.between_calls.some in
      let mine = (turns.own-region now.epoch now.ideal now.log a now.at ready.turn 0 k is).0 in
      room-here k mine.region
      (inl (
        (λ over. over.tried.full (subst (λ (o : Option ℕ). RegionHasRoom (region_of a.notes.items o) size) (sym is) fits)),
        ap (λ (f : Kind). block_of (seat_at_turn a) (class_for f size)) lines ∙ is,
      )) mine.note (subst (λ (r : Region). RegionHasRoom r size) (ap region_noted mine.note) fits)

  -- the overflow region is tried and has room
  in-over : (o : Option ℕ) → over_of (seat_at_turn a) ≡ o → TriesOverflow (cursors_of (regions_at_turn a)) size
      → RegionHasRoom (region_of a.notes.items o) size → RegionHasRoomFor a size
  in-over None is tried fits = absurd (omega (arith, fits, some))
  in-over (Some k) is tried fits =
      let now = ready.between_calls.some in
      let mine = turns.own-over now.epoch now.ideal now.log a now.at ready.turn k lines is in
      room-here k mine.region (inr (record { lines = lines; tried = tried }, is)) mine.note (subst (λ (r : Region). RegionHasRoom r size) (ap region_noted mine.note) fits)

  -- without room neither region has some
  pub lacks-regions : (RegionHasRoomFor a size → ⊥) → LacksRoom (cursors_of (regions_at_turn a)) size
  lacks-regions none = record {
    hole = λ room. none (in-hole (block_of (seat_at_turn a) 0) refl room);
    over = λ tried room. none (in-over (over_of (seat_at_turn a)) refl tried room);
  }

-- a block with cells for objects of other sizes
unsuited-none : (a : PlainRow) (block size : ℕ) → MayCall a → class_at (state_of a.row) block ≢ class_for a.fill size → (at : ℕ) → HasHole a.fill (state_of a.row) block at size → ⊥
unsuited-none a block size ready other at hole =
    let now = ready.between_calls.some in
    let there : block < a.row.layout.blocks = kind-within (state_of a.row) block a.fill (hole-kind a.fill (state_of a.row) block at size hole) in
    filled_kinds.suits-hole a.fill now.at.fills (state_of a.row) block at size (facts.code now.epoch now.ideal now.log a now.at block there) other hole

pub unsuited-lacks : (a : PlainRow) (block least size : ℕ) → MayCall a → slice_get a.notes.items block ≡ Some (Unowned least)
    → class_at (state_of a.row) block ≢ class_for a.fill size → Lacks a size block
unsuited-lacks a block least size ready note other = unowned-lacks a block least size ready note (unsuited-none a block size ready other)

-- a block that another mutator owns, or whose region has no room, or of another class
pub foreign-lacks : (a : PlainRow) (block size owner : ℕ) (region : Region) → MayCall a → slice_get a.notes.items block ≡ Some (Owned owner region)
    → (owner ≢ number_at_turn a) ⊎ ((FillsLines a.fill → ⊥) × ((region.end < region.next + size) ⊎ (class_at (state_of a.row) block ≢ class_for a.fill size)))
    → Lacks a size block
foreign-lacks a block size owner region ready note away = record {
  unowned = λ nobody at hole. let some : 0 < owner = right.some in let is : owner_at (state_of a.row) block ≡ owner = right.owner in omega arith;
  own = λ not mine at hole. elim away as (λ _. ⊥) [
    | inl other ↦ other (sym right.owner ∙ mine)
    | inr (_, inl over) ↦ elim (fills-cases a.fill ready.between_calls.some.at.fills) as (λ _. ⊥) [
      | inl fills ↦ region-lacks a.fill fills (state_of a.row) block at size region right.left over hole
      | inr lines ↦ not lines
    ]
    | inr (_, inr class) ↦ unsuited-none a block size ready class at hole
  ];
  lines = λ lines. elim away as (λ _. LacksLines (regions_at_turn a) (state_of a.row) size block) [
    | inl other ↦ record {
      region = λ is. absurd (other (own-of (hole is)));
      later = λ is. absurd (other (own-of (hole is)));
      over = λ is. absurd (other (own-of (let now = ready.between_calls.some in turns.own-over now.epoch now.ideal now.log a now.at ready.turn block lines is)));
    }
    | inr rest ↦ absurd (rest.0 lines)
  ];
}
  where
    right : IsOwnedNote a.fill (state_of a.row) block owner region
    right = let now = ready.between_calls.some in turns.owned-note now.epoch now.ideal now.log a now.at block owner region note

    own-of : IsRegionOf a.notes.items (number_at_turn a) block → owner ≡ number_at_turn a
    own-of mine = let same : Owned owner region ≡ Owned (number_at_turn a) mine.region =
        one-element (slice_get a.notes.items block) (Owned owner region) (Owned (number_at_turn a) mine.region) note mine.note in cc

    hole : block_of (seat_at_turn a) 0 ≡ Some block → IsRegionOf a.notes.items (number_at_turn a) block
    hole is = let now = ready.between_calls.some in (turns.own-region now.epoch now.ideal now.log a now.at ready.turn 0 block is).0

-- a block of the mutator under lines
pub own-lines-lack : (a : PlainRow) (block size : ℕ) (region : Region) → MayCall a → slice_get a.notes.items block ≡ Some (Owned (number_at_turn a) region) → FillsLines a.fill
    → LacksLines (regions_at_turn a) (state_of a.row) size block → Lacks a size block
own-lines-lack a block size region ready note lines lack = record {
  unowned = λ nobody at hole.
      let now = ready.between_calls.some in
      let right = turns.owned-note now.epoch now.ideal now.log a now.at block (number_at_turn a) region note in
      let some : 0 < number_at_turn a = right.some in let is : owner_at (state_of a.row) block ≡ number_at_turn a = right.owner in omega arith;
  own = λ no_lines. absurd (no_lines lines);
  lines = λ _. lack;
}

-- the block of the hole region, whose region is full and has no next hole
pub lacks-next : (a : PlainRow) (block size : ℕ) (region : Region) → slice_get a.notes.items block ≡ Some (Owned (number_at_turn a) region) → FillsLines a.fill
    → region.end < region.next + size → IsFirstHole a.fill (state_of a.row) block region.end size None → LacksLines (regions_at_turn a) (state_of a.row) size block
lacks-next a block size region note lines full none = record {
  region = λ is room. full-region room;
  later = λ is next end has. subst (λ (f : Kind). IsFirstHole f (state_of a.row) block region.end size None) lines none next end
      (subst (λ (r : Region). HasRoomFrom kinds.Immix (state_of a.row) block r.end size next end) (ap region_noted note) has);
  over = λ is above room. full-region room;
}
  where
    full-region : RegionHasRoom (region_of a.notes.items (Some block)) size → ⊥
    full-region room = let fits : RegionHasRoom region size = subst (λ (r : Region). RegionHasRoom r size) (ap region_noted note) room in omega (arith, fits, full)

-- a block that is not the hole region's, and whose region takes no such object
pub lacks-over : (a : PlainRow) (block size : ℕ) (region : Region) → slice_get a.notes.items block ≡ Some (Owned (number_at_turn a) region)
    → (block_of (seat_at_turn a) 0 ≡ Some block → ⊥) → (over_of (seat_at_turn a) ≡ Some block → 16 < size → RegionHasRoom region size → ⊥)
    → LacksLines (regions_at_turn a) (state_of a.row) size block
lacks-over a block size region note other none = record {
  region = λ is. absurd (other is);
  later = λ is. absurd (other is);
  over = λ is above room. none is above (subst (λ (r : Region). RegionHasRoom r size) (ap region_noted note) room);
}

-- the hole region lacks room
pub hole-full : (a : PlainRow) (block size : ℕ) (region : Region) → slice_get a.notes.items block ≡ Some (Owned (number_at_turn a) region) → FillsLines a.fill
    → block_of (seat_at_turn a) 0 ≡ Some block → IsFull a size → region.end < region.next + size
hole-full a block size region note lines current full = elim (cases_lt region.end (region.next + size)) as (λ _. region.end < region.next + size) [
  | inl less ↦ less
  | inr room ↦ absurd ((full.lines lines).hole (subst (λ (r : Region). RegionHasRoom r size)
      (sym (ap (region_of a.notes.items) current ∙ ap region_noted note)) (let fits : RegionHasRoom region size = omega (arith, room) in fits)))
]

-- so does the overflow region, if it is tried
pub over-full : (a : PlainRow) (block size : ℕ) (region : Region) → slice_get a.notes.items block ≡ Some (Owned (number_at_turn a) region) → FillsLines a.fill
    → IsFull a size → over_of (seat_at_turn a) ≡ Some block → 16 < size → RegionHasRoom region size → ⊥
over-full a block size region note lines full over above room = (full.lines lines).over (record { above = above; full = (full.lines lines).hole })
    (subst (λ (r : Region). RegionHasRoom r size) (sym (ap (region_of a.notes.items) over ∙ ap region_noted note)) room)

-- whether an option has this number
block-is : (o : Option ℕ) (k : ℕ) → (o ≡ Some k) ⊎ (o ≡ Some k → ⊥)
block-is None k = inr (λ is. let wrong : None ≡ Some k = is in cc)
block-is (Some j) k = elim (cases_eq j k) as (λ _. (Some j ≡ Some k) ⊎ (Some j ≡ Some k → ⊥)) [
  | inl same ↦ inl (ap (λ (n : ℕ). Some n) same)
  | inr other ↦ inr (λ is. other (one-element (Some j) j k refl is))
]

-- a block of the mutator where no region that is tried has room: it lacks room if, as the block of the hole region, it has
-- no next hole
pub own-lines : (a : PlainRow) (block size : ℕ) (region : Region) → slice_get a.notes.items block ≡ Some (Owned (number_at_turn a) region) → FillsLines a.fill
    → IsFull a size → (block_of (seat_at_turn a) 0 ≡ Some block → IsFirstHole a.fill (state_of a.row) block region.end size None)
    → LacksLines (regions_at_turn a) (state_of a.row) size block
own-lines a block size region note lines full none = elim (block-is (block_of (seat_at_turn a) 0) block) as (λ _. LacksLines (regions_at_turn a) (state_of a.row) size block) [
  | inl here ↦ lacks-next a block size region note lines (hole-full a block size region note lines here full) (none here)
  | inr other ↦ lacks-over a block size region note other (over-full a block size region note lines full)
]

-- a block of the mutator that has no lines lacks room if the region for the size has none
pub own-lacks : (a : PlainRow) (size k : ℕ) → MayCall a → (FillsLines a.fill → ⊥) → (RegionHasRoomFor a size → ⊥) → block_of (seat_at_turn a) (class_for a.fill size) ≡ Some k → Lacks a size k
own-lacks a size k ready no_lines none here =
    let now = ready.between_calls.some in
    let mine = (turns.own-region now.epoch now.ideal now.log a now.at ready.turn (class_for a.fill size) k here).0 in
    elim (cases_lt mine.region.end (mine.region.next + size)) as (λ _. Lacks a size k) [
      | inl full ↦ foreign-lacks a k size _ mine.region ready mine.note (inr (no_lines, inl full))
      | inr room ↦ absurd (none (record {
        turn = ready.turn;
        some = now;
        block = k;
        current = inl ((λ over. no_lines over.lines), here);
        room = record {
          region = mine.region;
          note = mine.note;
          room = omega arith;
          others = λ j owner r is. inr (ready.between_calls.filled j owner r is);
        };
      }))
    ]

-- the block of the overflow region lacks room if no region that is tried has some
pub over-lacks : (a : PlainRow) (size k : ℕ) → MayCall a → FillsLines a.fill → IsFull a size → 16 < size → over_of (seat_at_turn a) ≡ Some k → Lacks a size k
over-lacks a size k ready lines full above is =
    let now = ready.between_calls.some in
    let mine = turns.own-over now.epoch now.ideal now.log a now.at ready.turn k lines is in
    let right = turns.owned-note now.epoch now.ideal now.log a now.at k (number_at_turn a) mine.region mine.note in
    record {
      unowned = λ nobody at hole. let positive : 0 < number_at_turn a = right.some in let owner : owner_at (state_of a.row) k ≡ number_at_turn a = right.owner in omega arith;
      own = λ no_lines _ at hole. no_lines lines;
      lines = λ _. record {
        region = λ hole. absurd (turns.own-apart now.epoch now.ideal now.log a now.at ready.turn k lines is hole);
        later = λ hole. absurd (turns.own-apart now.epoch now.ideal now.log a now.at ready.turn k lines is hole);
        over = λ _ _ room. over-full a k size mine.region mine.note lines full is above
            (subst (λ (r : Region). RegionHasRoom r size) (ap region_noted mine.note) room);
      };
    }
