-- The room that a world offers to the mutator whose turn it is.
use Rattle.std.proofs.Common.{◌≡◌, refl, sym, ◌∙◌, ap, subst, ℕ, ◌+◌, ◌<◌, ◌≤◌, ◌⊎◌, inl, inr, arith}
use Rattle.std.specs.Prelude.{Option, Some, None, slice_get}
use Rattle.heap_layout.specs.declared.block.Kind.{Kind}
use Rattle.heap_layout.specs.declared.block.Kind.TheVariants as kinds
use Rattle.heap_layout.specs.declared.region.Region.{Region}
use Rattle.object_model.specs.Objects.{HeapState, state_of, class_at, owner_at, has_kind, HasKind}
use Rattle.sessions.specs.Fitting.{class_for}
use Rattle.plain_row.specs.declared.plain_row.PlainRow.{PlainRow}
use Rattle.block_regions.specs.declared.block_notes.BlockNote.TheVariants.{Owned}
use Rattle.plan_api.specs.declared.cursors.Cursors.{Cursors}
use Rattle.plan_api.specs.Cursors.{RegionHasRoom, LacksRoom}
use Rattle.plan_api.specs.Holes.{IsFirstPart}
use Rattle.plain_row.specs.Rows.{number_at_turn, seat_at_turn, regions_at_turn}
use Rattle.local_allocators.specs.Seats.{block_of, over_of}
use Rattle.block_regions.specs.Notes.{FillsTailsOrCells, IsRegionOf}
use Rattle.local_allocators.specs.MutatorRegions.{FillsLines, GoesOver, IsBlockFor, KeepsRegions, LacksLines, part, BeginsInLines, OffersLines, OffersRoom}
use Rattle.local_allocators.specs.NotedRegions.{region_of, region_noted}
use Rattle.plain_row.specs.Worlds.{IsInSomeEpoch, MayCall, RegionHasRoomFor}
use Rattle.block_regions.specs.Regions.{BeginsHole}
use Rattle.plain_row.specs.Steps.{IsRegion, IsOffer, Offers, LeavesClass, IsFull, IsOverflow, KeepsRegion, KeepsRest}
use Rattle.block_regions.proofs.Regions.{region-hole, region-before, SuitsCells, suits-class, fills-cases, no-lines}
use Rattle.block_regions.proofs.BlockFrames.{SameLines}
use Rattle.local_allocators.proofs.LineLacks.{lines-lack-still, same-shrinks, first-back}
use Rattle.plain_row.proofs.Turns as turns
use Rattle.local_allocators.proofs.KeptRegions.{others-after, cursors-same}

-- cells of the class for the size suit it
suits-fill : (fill : Kind) (s : HeapState) (k size : ℕ) → 1 ≤ size → size ≤ 2048 → class_at s k ≡ class_for fill size → fill ≡ kinds.Cells → SuitsCells s k size
suits-fill fill s k size some small suits cells = suits-class s k size some small (suits ∙ ap (λ (f : Kind). class_for f size) cells)

-- the region of a block of the mutator that has the class for the size is a hole with room
own-begins : (a : PlainRow) → IsInSomeEpoch a → FillsTailsOrCells a.fill → (block size : ℕ) (region : Region)
    → slice_get a.notes.items block ≡ Some (Owned (number_at_turn a) region)
    → class_at (state_of a.row) block ≡ class_for a.fill size → 3 ≤ size → size ≤ 2048 → region.next + size ≤ region.end
    → BeginsHole a.fill (state_of a.row) block region.next size × (owner_at (state_of a.row) block ≡ number_at_turn a)
own-begins a now fills block size region note suits some small fits =
    let right = turns.owned-note now.epoch now.ideal now.log a now.at block (number_at_turn a) region note in (
      record {
        hole = region-hole a.fill fills (state_of a.row) block size region right.kind right.left (suits-fill a.fill (state_of a.row) block size (omega (arith, some)) small suits) fits;
        first = λ from hole. region-before a.fill fills (state_of a.row) block region right.left from size hole;
      },
      right.owner,
    )

pub own-offer : (a b : PlainRow) → IsInSomeEpoch a → FillsTailsOrCells a.fill → (block size : ℕ) (region : Region)
    → slice_get a.notes.items block ≡ Some (Owned (number_at_turn a) region)
    → class_at (state_of a.row) block ≡ class_for a.fill size → 3 ≤ size → size ≤ 2048 → region.next + size ≤ region.end → IsRegion b size block region
    → KeepsRest b size a b → Offers a b size
own-offer a b now fills block size region note suits some small fits here rest =
    let begins = own-begins a now fills block size region note suits some small fits in
    record {
      block = block;
      region = region;
      now = here;
      offer = OffersRoom.own_hole begins.0 (λ lines. no-lines (subst FillsTailsOrCells lines fills)) begins.1;
      class = inl (inl (turns.note-block now.epoch now.ideal now.log a now.at block (Owned (number_at_turn a) region) note, begins.1));
      others = rest;
    }

-- a mutator that does nothing keeps its regions
rest-same : (a : PlainRow) (size : ℕ) → KeepsRest a size a a
rest-same a size = record { classes = λ class _. record { block = refl; region = refl }; over_stays = λ _. record { block = refl; region = refl } }

-- the rest of the region that takes the size, under lines
rest-offer : (a : PlainRow) → IsInSomeEpoch a → FillsLines a.fill → (block size : ℕ) (region : Region) → IsRegion a size block region
    → region.next + size ≤ region.end → Offers a a size
rest-offer a now lines block size region here fits =
    let right = turns.owned-note now.epoch now.ideal now.log a now.at block (number_at_turn a) region here.note in
    let same : region_of a.notes.items (Some block) ≡ region = ap region_noted here.note in
    record {
      block = block;
      region = region;
      now = here;
      offer = OffersRoom.own_lines (record {
        lines = lines;
        owner = right.owner;
        from = BeginsInLines.at_region here.current (ap (λ (r : Region). r.next) (sym same)) (subst (λ (r : Region). RegionHasRoom r size) (sym same) fits);
      });
      class = inl (inl (turns.note-block now.epoch now.ideal now.log a now.at block (Owned (number_at_turn a) region) here.note, right.owner));
      others = rest-same a size;
    }

pub room-offers : (a : PlainRow) (size : ℕ) → 3 ≤ size → size ≤ 2048 → RegionHasRoomFor a size → Offers a a size
room-offers a size some small has = elim (fills-cases a.fill has.some.at.fills) as (λ _. Offers a a size) [
  | inl fills ↦ own-offer a a has.some fills has.block size has.room.region has.room.note
      (turns.own-block has.some.epoch has.some.ideal has.some.log a has.some.at has.turn size has.block has.current).1
      some small has.room.room (record { current = has.current; note = has.room.note }) (rest-same a size)
  | inr lines ↦ rest-offer a has.some lines has.block size has.room.region (record { current = has.current; note = has.room.note }) has.room.room
]

-- where a region that is tried has room, not all lack it
pub room-not-full : (a : PlainRow) (size : ℕ) → 3 ≤ size → size ≤ 2048 → RegionHasRoomFor a size → IsFull a size → ⊥
room-not-full a size some small has full = elim (fills-cases a.fill has.some.at.fills) as (λ _. ⊥) [
  | inl fills ↦ (
      let not : FillsLines a.fill → ⊥ = λ lines. no-lines (subst FillsTailsOrCells lines fills) in
      let class = (turns.own-block has.some.epoch has.some.ideal has.some.log a has.some.at has.turn size has.block has.current).1 in
      let begins = own-begins a has.some fills has.block size has.room.region has.room.note class some small has.room.room in
      elim has.current as (λ _. ⊥) [
        | inl is ↦ (full.own not has.block is.1).own not begins.1 has.room.region.next begins.0.hole
        | inr is ↦ not is.0.lines
      ])
  | inr lines ↦ elim has.current as (λ _. ⊥) [
    | inl is ↦ (full.lines lines).hole
        (room-in (block_of (seat_at_turn a) 0) (ap (λ (f : Kind). block_of (seat_at_turn a) (class_for f size)) (sym lines) ∙ is.1))
    | inr is ↦ (full.lines lines).over is.0.tried (room-in (over_of (seat_at_turn a)) is.1)
  ]
]
  where
    room-in : (o : Option ℕ) → o ≡ Some has.block → RegionHasRoom (region_of a.notes.items o) size
    room-in o is = subst (λ (r : Region). RegionHasRoom r size) (sym (ap (region_of a.notes.items) is ∙ ap region_noted has.room.note)) has.room.room

-- while the hole region stays, what overflows it does
pub still-over : (a b : PlainRow) → b.fill ≡ a.fill → KeepsRegion a b → (size : ℕ) → GoesOver a.fill (regions_at_turn a) size
    → GoesOver b.fill (regions_at_turn b) size
still-over a b fill keeps size is = record {
  lines = fill ∙ is.lines;
  tried = record { above = is.tried.above; full = λ room. is.tried.full (subst (λ (r : Region). RegionHasRoom r size) keeps.region room) };
}

pub still-overflows : (a b : PlainRow) → b.fill ≡ a.fill → KeepsRegion a b → (size : ℕ) → IsOverflow a size → IsOverflow b size
still-overflows a b fill keeps size is = record {
  over = still-over a b fill keeps size is.over;
  some = subst (λ (r : Region). r.next < r.end) (sym keeps.region) is.some;
}

-- what overflows it then did before
pub overflowed : (a b : PlainRow) → b.fill ≡ a.fill → KeepsRegion a b → (size : ℕ) → IsOverflow b size → IsOverflow a size
overflowed a b fill keeps size is = still-overflows b a (sym fill) (record { block = sym keeps.block; region = sym keeps.region }) size is

-- a world with the same heap offers the same, if it does so of lines
offer-back : (a b : PlainRow) (k offset n : ℕ) → state_of b.row ≡ state_of a.row → b.fill ≡ a.fill → number_at_turn b ≡ number_at_turn a
    → (OffersLines b.fill (regions_at_turn b) (state_of b.row) (number_at_turn b) k offset n
    → OffersLines a.fill (regions_at_turn a) (state_of a.row) (number_at_turn a) k offset n)
    → IsOffer b k offset n → IsOffer a k offset n
offer-back a b k offset n heap fill number lines (OffersRoom.unowned_hole begins none) = OffersRoom.unowned_hole
    (subst (λ (f : Kind). BeginsHole f (state_of a.row) k offset n) fill (subst (λ (s : HeapState). BeginsHole b.fill s k offset n) heap begins))
    (subst (λ (s : HeapState). owner_at s k ≡ 0) heap none)
offer-back a b k offset n heap fill number lines (OffersRoom.own_hole begins not own) = OffersRoom.own_hole
    (subst (λ (f : Kind). BeginsHole f (state_of a.row) k offset n) fill (subst (λ (s : HeapState). BeginsHole b.fill s k offset n) heap begins))
    (λ is. not (fill ∙ is)) (subst (λ (s : HeapState). owner_at s k ≡ number_at_turn b) heap own ∙ number)
offer-back a b k offset n heap fill number lines (OffersRoom.free_block free start) =
    OffersRoom.free_block (subst (λ (s : HeapState). HasKind s k kinds.Free) heap free) start
offer-back a b k offset n heap fill number lines (OffersRoom.own_lines own) = OffersRoom.own_lines (lines own)

pub offers-back : (a b c : PlainRow) (n : ℕ) → state_of b.row ≡ state_of a.row → b.fill ≡ a.fill → number_at_turn b ≡ number_at_turn a
    → ((k offset : ℕ) → OffersLines b.fill (regions_at_turn b) (state_of b.row) (number_at_turn b) k offset n
    → OffersLines a.fill (regions_at_turn a) (state_of a.row) (number_at_turn a) k offset n)
    → KeepsRegions (regions_at_turn a) (regions_at_turn b) → Offers b c n → Offers a c n
offers-back a b c n heap fill number lines keeps offers = record {
  block = offers.block;
  region = offers.region;
  now = offers.now;
  offer = offer-back a b offers.block offers.region.next n heap fill number (lines offers.block offers.region.next) offers.offer;
  class = elim offers.class as (λ _. LeavesClass a n offers.block ⊎ (block_of (seat_at_turn c) (class_for c.fill n) ≡ Some offers.block)) [
    | inl (inl own) ↦ inl (inl (subst (λ m. (offers.block < (state_of a.row).blocks) × (owner_at (state_of a.row) offers.block ≡ m)) number
        (subst (λ (s : HeapState). (offers.block < s.blocks) × (owner_at s offers.block ≡ number_at_turn b)) heap own)))
    | inl (inr free) ↦ inl (inr (subst (λ (s : HeapState). HasKind s offers.block kinds.Free) heap free.0, overflowed a b fill (keeps.classes 0) n free.1))
    | inr is ↦ inr is
  ];
  others = others-after c.fill n (GoesOver c.fill (regions_at_turn c) n) (regions_at_turn a) (regions_at_turn b)
      (regions_at_turn c) keeps offers.others;
}

-- From a to b the mutator whose turn it is keeps its blocks, and these their line bits.
pub record KeepsSeat (a b : PlainRow) : Type 0 where
  pub fill : b.fill ≡ a.fill
  pub number : number_at_turn b ≡ number_at_turn a
  pub block : (class : ℕ) → block_of (seat_at_turn b) class ≡ block_of (seat_at_turn a) class
  pub over : over_of (seat_at_turn b) ≡ over_of (seat_at_turn a)
  pub kind : (k : ℕ) → has_kind (state_of b.row) k kinds.Immix ≡ has_kind (state_of a.row) k kinds.Immix
  pub lines : (k : ℕ) → IsRegionOf a.notes.items (number_at_turn a) k → SameLines (state_of a.row) (state_of b.row) k

module _ (a b : PlainRow) (keeps : KeepsSeat a b) (ready : MayCall a) where
  kind-then : (k : ℕ) → HasKind (state_of b.row) k kinds.Immix → HasKind (state_of a.row) k kinds.Immix
  kind-then k kind = sym (keeps.kind k) ∙ kind

  own-hole : (k : ℕ) → block_of (seat_at_turn b) 0 ≡ Some k → IsRegionOf a.notes.items (number_at_turn a) k
  own-hole k here = let now = ready.between_calls.some in (turns.own-region now.epoch now.ideal now.log a now.at ready.turn 0 k (sym (keeps.block 0) ∙ here)).0

  -- a block whose region stays lacks room still
  pub still-lacks : (n k : ℕ) → region_of b.notes.items (Some k) ≡ region_of a.notes.items (Some k)
      → LacksLines (regions_at_turn a) (state_of a.row) n k → LacksLines (regions_at_turn b) (state_of b.row) n k
  still-lacks n k same = lines-lack-still (regions_at_turn a) (regions_at_turn b) (state_of a.row) (state_of b.row) n k
      (λ here. sym (keeps.block 0) ∙ here) (λ over. sym keeps.over ∙ over)
      (same-shrinks (region_of a.notes.items (Some k)) (region_of b.notes.items (Some k)) same)
      (kind-then k) (λ here. keeps.lines k (own-hole k here))

  -- where all regions stay
  module _ (regions : (k : ℕ) → region_of b.notes.items (Some k) ≡ region_of a.notes.items (Some k)) where
    region-same : (o : Option ℕ) → region_of b.notes.items o ≡ region_of a.notes.items o
    region-same None = refl
    region-same (Some k) = regions k

    pub seat-regions : KeepsRegions (regions_at_turn a) (regions_at_turn b)
    seat-regions = record {
      classes = λ class. record {
        block = keeps.block class;
        region = ap (region_of b.notes.items) (keeps.block class) ∙ region-same (block_of (seat_at_turn a) class);
      };
      over = record { block = keeps.over; region = ap (region_of b.notes.items) keeps.over ∙ region-same (over_of (seat_at_turn a)) };
    }

    seat-keeps : KeepsRegion a b
    seat-keeps = seat-regions.classes 0

    goes-over : (size : ℕ) → GoesOver b.fill (regions_at_turn b) size → GoesOver a.fill (regions_at_turn a) size
    goes-over size is = still-over b a (sym keeps.fill) (record { block = sym seat-keeps.block; region = sym seat-keeps.region }) size is

    block-for : (size k : ℕ) → IsBlockFor b.fill (regions_at_turn b) size k → IsBlockFor a.fill (regions_at_turn a) size k
    block-for size k (inl is) = inl (
      (λ over. is.0 (still-over a b keeps.fill seat-keeps size over)),
      sym (keeps.block (class_for a.fill size))
          ∙ ap (λ (f : Kind). block_of (seat_at_turn b) (class_for f size)) (sym keeps.fill) ∙ is.1,
    )
    block-for size k (inr is) = inr (goes-over size is.0, sym keeps.over ∙ is.1)

    -- the block in which lines offer room is the mutator's
    begins-owned : (k offset size : ℕ) → BeginsInLines b.fill (regions_at_turn b) (state_of b.row) k offset size → IsRegionOf a.notes.items (number_at_turn a) k
    begins-owned k offset size (BeginsInLines.at_region here starts room) = let now = ready.between_calls.some in
        (turns.own-block now.epoch now.ideal now.log a now.at ready.turn size k (block-for size k here)).0
    begins-owned k offset size (BeginsInLines.at_later_hole here lacks end first) = own-hole k here

    begins-back : (k offset size : ℕ) → IsRegionOf a.notes.items (number_at_turn a) k → BeginsInLines b.fill (regions_at_turn b) (state_of b.row) k offset size
        → BeginsInLines a.fill (regions_at_turn a) (state_of a.row) k offset size
    begins-back k offset size mine (BeginsInLines.at_region here starts room) = BeginsInLines.at_region (block-for size k here)
        (starts ∙ ap (λ (r : Region). r.next) (regions k)) (subst (λ (r : Region). RegionHasRoom r size) (regions k) room)
    begins-back k offset size mine (BeginsInLines.at_later_hole here lacks end first) = BeginsInLines.at_later_hole (sym (keeps.block 0) ∙ here)
        (subst (λ (c : Cursors). LacksRoom c size) (cursors-same (regions_at_turn a) (regions_at_turn b) seat-regions) lacks) end
        (first-back (state_of a.row) (state_of b.row) k (region_of a.notes.items (Some k)).end size (part offset end)
        (kind-then k) (λ kind. keeps.kind k ∙ kind) (keeps.lines k mine)
        (subst (λ (r : Region). IsFirstPart kinds.Immix (state_of b.row) k r.end size (part offset end)) (regions k) first))

    -- what lines offer they offered
    pub offered-lines : (k offset size : ℕ) → OffersLines b.fill (regions_at_turn b) (state_of b.row) (number_at_turn b) k offset size
        → OffersLines a.fill (regions_at_turn a) (state_of a.row) (number_at_turn a) k offset size
    offered-lines k offset size is =
        let now = ready.between_calls.some in
        let mine = begins-owned k offset size is.from in record {
          lines = sym keeps.fill ∙ is.lines;
          owner = (turns.owned-note now.epoch now.ideal now.log a now.at k (number_at_turn a) mine.region mine.note).owner;
          from = begins-back k offset size mine is.from;
        }
