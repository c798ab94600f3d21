-- What a mutator has and does that looks for a hole in a block.
use Rattle.std.proofs.Common.{◌≡◌, ◌≢◌, refl, sym, ◌∙◌, ap, subst, ℕ, ◌+◌, ◌<◌, ◌≤◌, ◌⊎◌, inl, inr, arith, true, false, List, [], ◌∷◌, map, length, length-set}
use Rattle.std.specs.Prelude.{Some, None, slice_get, slice_set, unwrap_or}
use Rattle.std.proofs.lemmas.Bool.{cases_eq}
use Rattle.heap_layout.specs.declared.block.Kind.{Kind}
use Rattle.heap_layout.specs.declared.block.Kind.TheVariants as kinds
use Rattle.heap_layout.specs.declared.region.Region.{Region}
use Rattle.ideal_heap.specs.Ideal.{IdealHeap}
use Rattle.object_model.specs.Objects.{HeapState, state_of, has_kind, HasKind, class_at, owner_at, line_marked}
use Rattle.sessions.specs.Fitting.{HasHole, class_for}
use Rattle.plan_api.specs.Holes.{IsFirstHole, IsFirstPart}
use Rattle.block_regions.specs.Regions.{IsRegionIn}
use Rattle.block_regions.proofs.Regions.{first-hole, first-before, fills-cases, no-lines}
use Rattle.block_regions.proofs.LineRegions.{here-next}
use Rattle.mutator_core.specs.declared.state.LogEntry.{LogEntry}
use Rattle.mutator_core.specs.Machine.{Epoch}
use Rattle.mutator_core.specs.Logs.{local_after_log}
use Rattle.mutator_calls.specs.declared.need.Mutator.{Mutator}
use Rattle.mutator_calls.specs.Effects as effects
use Rattle.mutator_calls.specs.Effects.{nothing}
use Rattle.plain_row.specs.declared.plain_row.PlainRow.{PlainRow}
use Rattle.local_allocators.specs.declared.local_seat.LocalSeat.{LocalSeat}
use Rattle.block_regions.specs.declared.block_notes.BlockNote.{BlockNote}
use Rattle.block_regions.specs.declared.block_notes.BlockNote.TheVariants.{Unowned, Owned}
use Rattle.plain_row.specs.Rows.{mutator_number, number_at_turn, seat_at_turn, regions_at_turn}
use Rattle.local_allocators.specs.Seats.{ticket_of, blocks_of, block_of, over_of}
use Rattle.block_regions.specs.Notes.{FillsTailsOrCells, FillsHoles, IsBlockNote, IsUnownedNote, IsOwnedNote, HasNotes, IsRegionOf}
use Rattle.local_allocators.specs.MutatorRegions.{FillsLines, cursors_of, GoesOver, KeepsRegions, LacksLines, OffersRoom, BeginsInLines}
use Rattle.local_allocators.specs.NotedRegions.{region_of, region_noted}
use Rattle.plan_api.specs.declared.cursors.Cursors.{Cursors}
use Rattle.plan_api.specs.Cursors.{RegionHasRoom, LacksRoom}
use Rattle.plain_row.specs.Changes.{ReturnsTo, NotesBlock, KeepsPlan, FindsHole, LacksHole}
use Rattle.plain_row.specs.Changes.FindsHole.{own, next_hole, taken}
use Rattle.plain_row.specs.Changes.LacksHole.{known, seen, unsuited, foreign, lacks_lines}
use Rattle.plain_row.specs.Worlds.{IsAt, MayCall, RegionHasRoomFor, HasState, HasCursors, Goes, is_in_list}
use Rattle.plain_row.specs.Steps.{AllocatesIn, Lacks, IsFull, IsRegion, KeepsRest, Offers, books_of}
use Rattle.plain_row.specs.SeatLaws.{goes-nothing}
use Rattle.local_allocators.proofs.SeatRegions.{lines-for, class-else, over-else}
use Rattle.plain_row.proofs.ForeignBlocks.{foreign-same, foreign-but}
use Rattle.block_regions.proofs.Elements.{set-changes, set-other, changes-cases}
use Rattle.block_regions.proofs.NoteLemmas.{no-hole}
use Rattle.block_regions.proofs.Lists.{one-element}
use Rattle.plain_row.proofs.RegionsWithoutRoom.{no-block, unowned-lacks, unsuited-lacks, foreign-lacks, own-lines-lack, over-lacks}
use Rattle.plain_row.proofs.OwnedLists.{lists-kept, lists-moved, flags-kept}
use Rattle.local_allocators.proofs.OwnedLists.{listed-noted, listed-moved}
use Rattle.plain_row.proofs.LogStep as stepping
use Rattle.block_regions.proofs.FilledKinds as filled_kinds
use Rattle.plain_row.proofs.Turns as turns
use Rattle.plain_row.proofs.TicketDrawn.{lacks-after}
use Rattle.plain_row.proofs.RoomOffered.{own-offer, offers-back, KeepsSeat, still-lacks, seat-regions, offered-lines}
use Rattle.plain_row.proofs.GoesWithBlock.{number-kept, turn-kept, still-goes, seat-has, books-kept, taken-goes, taken-region, taken-class, taken-rest, taken-room, taken-others}
use Rattle.local_allocators.proofs.KeptRegions.{cursors-same}

-- the world after a mutator returned to a block of its own
module _ (a b : PlainRow) (block size : ℕ) (region : Region) (note : slice_get a.notes.items block ≡ Some (Owned (number_at_turn a) region))
    (suits : class_at (state_of a.row) block ≡ class_for a.fill size) (fits : region.next + size ≤ region.end)
    (not_lines : FillsLines a.fill → ⊥) (returns : ReturnsTo a b block (class_for a.fill size)) (ready : MayCall a) where
  abbrev seat : LocalSeat
  seat = record { ticket = ticket_of (seat_at_turn a); blocks = slice_set (blocks_of (seat_at_turn a)) (class_for a.fill size) (Some block); over = over_of (seat_at_turn a) }

  same-heap : state_of b.row ≡ state_of a.row
  same-heap = ap (λ r. state_of r) returns.row

  module _ (p : Epoch) (i : IdealHeap) (log : List LogEntry) (at : IsAt p i log a) where
    was : (k : ℕ) (q : Mutator) → slice_get b.mutators.items k ≡ Some q → slice_get a.mutators.items k ≡ Some q
    was k q is = ap (λ y. slice_get y.items k) (sym returns.mutators) ∙ is

    abbrev old : LocalSeat
    old = (stepping.seat p i log a at ready.turn).0

    each : (k : ℕ) (q : Mutator) (y : LocalSeat) → slice_get b.mutators.items k ≡ Some q → slice_get b.seats.items k ≡ Some y → HasState q y (local_after_log p log q.number)
    each k q y is sits = elim (changes-cases a.seats.items b.seats.items a.turn seat returns.seats k y sits) as (λ _. HasState q y (local_after_log p log q.number)) [
      | inl mine ↦ (let state = at.each a.turn q old (subst (λ n. slice_get a.mutators.items n ≡ Some q) mine.0 (was k q is)) (stepping.seat p i log a at ready.turn).1 in
          subst (λ (z : LocalSeat). HasState q z (local_after_log p log q.number)) (sym mine.1) (record {
            births = state.births;
            registers = state.registers;
            ticket = state.ticket ∙ ap ticket_of (sym (stepping.seat p i log a at ready.turn).1);
            none = state.none;
            stored = state.stored;
          }))
      | inr other ↦ at.each k q y (was k q is) other.1
    ]

    -- a block that a mutator allocated in is its own still
    still-own : (n c d : ℕ) → IsRegionOf a.notes.items n d × (class_at (state_of a.row) d ≡ c) → IsRegionOf b.notes.items n d × (class_at (state_of b.row) d ≡ c)
    still-own n c d is_in_list = (
      subst (λ v. IsRegionOf v.items n d) (sym returns.notes) is_in_list.0,
      ap (λ (t : HeapState). class_at t d) same-heap ∙ is_in_list.1,
    )

    own-cursors : HasCursors b.fill b.notes.items (state_of b.row) (number_at_turn a) seat
    own-cursors = record {
      classes = length-set (blocks_of (seat_at_turn a)) (class_for a.fill size) (Some block) ∙ turns.own-classes p i log a at ready.turn;
      each = λ c d is.
          let many : length (blocks_of (seat_at_turn a)) ≡ 19 = turns.own-classes p i log a at ready.turn in
          let few : class_for a.fill size ≤ 18 = filled_kinds.class-few a.fill size in
          still-own (number_at_turn a) c d
          (elim (changes-cases (blocks_of (seat_at_turn a)) seat.blocks (class_for a.fill size) (Some block)
          (set-changes (blocks_of (seat_at_turn a)) (class_for a.fill size) (Some block) (omega arith)) c (Some d) is) as
          (λ _. IsRegionOf a.notes.items (number_at_turn a) d × (class_at (state_of a.row) d ≡ c)) [
            | inl here ↦ (let same : d ≡ block = one-element (Some block) d block (sym here.1) refl in
                (record { region = region; note = ap (slice_get a.notes.items) same ∙ note }, ap (class_at (state_of a.row)) same ∙ suits ∙ sym here.0))
            | inr other ↦ turns.own-region p i log a at ready.turn c d (ap (λ o. unwrap_or o None) other.1)
          ]);
      lined = λ d there. absurd (not_lines (turns.own-lined p i log a at ready.turn d there));
      over = λ lines. absurd (not_lines (sym returns.plan.fill ∙ lines));
      apart = λ lines. absurd (not_lines (sym returns.plan.fill ∙ lines));
    }

    cursors : (k : ℕ) (q : Mutator) (y : LocalSeat) → slice_get b.mutators.items k ≡ Some q → slice_get b.seats.items k ≡ Some y → HasCursors b.fill b.notes.items (state_of b.row) q.number y
    cursors k q y is sits = elim (changes-cases a.seats.items b.seats.items a.turn seat returns.seats k y sits) as (λ _. HasCursors b.fill b.notes.items (state_of b.row) q.number y) [
      | inl mine ↦ subst (HasCursors b.fill b.notes.items (state_of b.row) q.number) (sym mine.1)
          (subst (λ (n : ℕ). HasCursors b.fill b.notes.items (state_of b.row) n seat) (ap mutator_number (subst (λ n. slice_get a.mutators.items n ≡ Some q) mine.0 (was k q is))) own-cursors)
      | inr other ↦ (let had = at.cursors k q y (was k q is) other.1 in record {
        classes = had.classes;
        each = λ c d there. still-own q.number c d (had.each c d there);
        lined = λ d there. returns.plan.fill ∙ had.lined d there;
        over = λ lines. absurd (not_lines (sym returns.plan.fill ∙ lines));
        apart = λ lines. absurd (not_lines (sym returns.plan.fill ∙ lines));
      })
    ]

    pub at-returned : IsAt p i log b
    at-returned = record {
      epoch = at.epoch;
      heap = same-heap ∙ at.heap;
      numbers = ap (λ y. map (λ z. z.number) y.items) returns.mutators ∙ at.numbers;
      seats = returns.seats.len ∙ at.seats ∙ ap (λ y. length y.items) (sym returns.mutators);
      each = each;
      cursors = cursors;
      notes = subst (λ f. HasNotes f (state_of b.row) b.notes.items) (sym returns.plan.fill)
          (subst (λ (t : HeapState). HasNotes a.fill t b.notes.items) (sym same-heap) (subst (λ v. HasNotes a.fill (state_of a.row) v.items) (sym returns.notes) at.notes));
      fill = returns.plan.fill ∙ at.fill;
      fills = subst FillsHoles (sym returns.plan.fill) at.fills;
      young = returns.plan.young ∙ at.young;
      allowed = returns.plan.allowance ∙ at.allowed;
      lists = lists-kept p a b at.lists returns.notes returns.owned returns.plan.counts (ap (λ r. r.layout.blocks) returns.row);
      flags = flags-kept p a b at.flags returns.plan.flags returns.row;
    }

  seat-same : seat_at_turn b ≡ Some seat
  seat-same = ap (λ n. slice_get b.seats.items n) returns.plan.turn ∙ returns.seats.here

  pub returned-goes : Goes a (effects.takes []) b
  returned-goes = still-goes a b returns.plan returns.mutators returns.row (ap ticket_of seat-same) returns.seats.others at-returned
      true (λ still. absurd (let wrong : true ≡ false = still in cc)) (foreign-same a b returns.notes)

  -- its regions for other classes stay
  pub returned-rest : KeepsRest b size a b
  returned-rest = record {
    classes = λ c other.
        let same : block_of (seat_at_turn b) c ≡ block_of (seat_at_turn a) c
        = ap (λ o. block_of o c) seat-same ∙ ap (λ o. unwrap_or o None) (set-other (blocks_of (seat_at_turn a)) (class_for a.fill size) (Some block) c
        (λ alike. not_lines (sym returns.plan.fill ∙ (other (alike ∙ ap (λ (f : Kind). class_for f size) (sym returns.plan.fill))).lines))) in
        record { block = same; region = ap (region_of b.notes.items) same ∙ ap (λ v. region_of v.items (block_of (seat_at_turn a) c)) returns.notes };
    over_stays = λ _.
        let same : over_of (seat_at_turn b) ≡ over_of (seat_at_turn a) = ap over_of seat-same in
        record { block = same; region = ap (region_of b.notes.items) same ∙ ap (λ v. region_of v.items (over_of (seat_at_turn a))) returns.notes };
  }

  current-again : block_of (seat_at_turn b) (class_for a.fill size) ≡ Some block
  current-again = let now = ready.between_calls.some in ap (λ o. block_of o (class_for a.fill size)) seat-same
      ∙ seat-has (blocks_of (seat_at_turn a)) (class_for a.fill size) block (filled_kinds.class-few a.fill size) (turns.own-classes now.epoch now.ideal now.log a now.at ready.turn)

  pub returned-region : IsRegion b size block region
  returned-region = record {
    current = inl (
      (λ over. not_lines (sym returns.plan.fill ∙ over.lines)),
      ap (λ (f : Kind). block_of (seat_at_turn b) (class_for f size)) returns.plan.fill ∙ current-again,
    );
    note = ap (λ y. slice_get y.items block) returns.notes ∙ note ∙ ap (λ n. Some (Owned n region)) (sym (number-kept a b returns.plan returns.mutators));
  }

  pub returned-room : RegionHasRoomFor b size
  returned-room = let now = ready.between_calls.some in record {
    turn = turn-kept a b ready.turn returns.plan returns.mutators returns.seats.len;
    some = record { epoch = now.epoch; ideal = now.ideal; log = now.log; at = at-returned now.epoch now.ideal now.log now.at };
    block = block;
    current = returned-region.current;
    room = record {
      region = region;
      note = returned-region.note;
      room = fits;
      others = λ k owner r is. inr (ready.between_calls.filled k owner r (ap (λ y. slice_get y.items k) (sym returns.notes) ∙ is));
    };
  }

-- the seat stays
seat-kept : (a b : PlainRow) → KeepsPlan a b → b.seats ≡ a.seats → seat_at_turn b ≡ seat_at_turn a
seat-kept a b plan same = ap (λ y. slice_get y.items b.turn) same ∙ ap (λ n. slice_get a.seats.items n) plan.turn

-- so do its blocks, where the note of one block changes
noted-seat : (a b : PlainRow) (block : ℕ) (note : BlockNote) → NotesBlock a b block note → KeepsSeat a b
noted-seat a b block note marks = let seat = seat-kept a b marks.plan marks.seats in record {
  fill = marks.plan.fill;
  number = number-kept a b marks.plan marks.mutators;
  block = λ class. ap (λ o. block_of o class) seat;
  over = ap over_of seat;
  kind = λ k. ap (λ r. has_kind (state_of r) k kinds.Immix) marks.row;
  lines = λ k mine line few. ap (λ r. line_marked (state_of r) k line) marks.row;
}

-- a block that nobody owns has no region, whatever is noted of its holes
unowned-regions : (a b : PlainRow) (block least size : ℕ) → slice_get a.notes.items block ≡ Some (Unowned least) → NotesBlock a b block (Unowned size)
    → (k : ℕ) → region_of b.notes.items (Some k) ≡ region_of a.notes.items (Some k)
unowned-regions a b block least size note marks k = elim (cases_eq k block) as (λ _. region_of b.notes.items (Some k) ≡ region_of a.notes.items (Some k)) [
  | inl here ↦ ap (λ q. region_of b.notes.items (Some q)) here ∙ ap region_noted marks.notes.here ∙ sym (ap region_noted note)
      ∙ ap (λ q. region_of a.notes.items (Some q)) (sym here)
  | inr other ↦ ap region_noted (marks.notes.others k other)
]

-- the mutator's regions stay then
noted-regions : (a b : PlainRow) (block least size : ℕ) → slice_get a.notes.items block ≡ Some (Unowned least) → NotesBlock a b block (Unowned size) → MayCall a
    → KeepsRegions (regions_at_turn a) (regions_at_turn b)
noted-regions a b block least size note marks ready =
    seat-regions a b (noted-seat a b block (Unowned size) marks) ready (unowned-regions a b block least size note marks)

-- the world after a block was found to have no room
module _ (a b : PlainRow) (block least size : ℕ) (note : slice_get a.notes.items block ≡ Some (Unowned least)) (none : IsFirstHole a.fill (state_of a.row) block 0 size None)
    (suits : HasKind (state_of a.row) block a.fill → class_at (state_of a.row) block ≡ class_for a.fill size) (some : 3 ≤ size) (small : size ≤ 2048)
    (marks : NotesBlock a b block (Unowned size)) (ready : MayCall a) where
  same-row : state_of b.row ≡ state_of a.row
  same-row = ap (λ r. state_of r) marks.row

  module _ (p : Epoch) (i : IdealHeap) (log : List LogEntry) (at : IsAt p i log a) where
    each-noted : (k : ℕ) (n : BlockNote) → slice_get b.notes.items k ≡ Some n → IsBlockNote a.fill (state_of a.row) k n
    each-noted k n is = elim (changes-cases a.notes.items b.notes.items block (Unowned size) marks.notes k n is) as (λ _. IsBlockNote a.fill (state_of a.row) k n) [
      | inl here ↦ (let right : IsUnownedNote a.fill (state_of a.row) block size = record {
        owner = (turns.unowned-note p i log a at block least note).owner;
        none = no-hole a.fill at.fills (state_of a.row) block size (omega (arith, some)) small suits none;
      } in subst (λ (q : ℕ). IsBlockNote a.fill (state_of a.row) q n) (sym here.0) (subst (IsBlockNote a.fill (state_of a.row) block) (sym here.1) right))
      | inr other ↦ at.notes.each k n other.1
    ]

    pub at-noted : IsAt p i log b
    at-noted = record {
      epoch = at.epoch;
      heap = same-row ∙ at.heap;
      numbers = ap (λ y. map (λ z. z.number) y.items) marks.mutators ∙ at.numbers;
      seats = ap (λ y. length y.items) marks.seats ∙ at.seats ∙ ap (λ y. length y.items) (sym marks.mutators);
      each = λ k q y is sits. at.each k q y (ap (λ z. slice_get z.items k) (sym marks.mutators) ∙ is) (ap (λ z. slice_get z.items k) (sym marks.seats) ∙ sits);
      cursors = λ k q y is sits. let had = at.cursors k q y (ap (λ z. slice_get z.items k) (sym marks.mutators) ∙ is) (ap (λ z. slice_get z.items k) (sym marks.seats) ∙ sits) in record {
        classes = had.classes;
        each = λ c d there. let is_in_list = had.each c d there in (
          record {
            region = is_in_list.0.region;
            note = marks.notes.others d (λ same. let wrong : Unowned least ≡ Owned q.number is_in_list.0.region =
                one-element (slice_get a.notes.items block) (Unowned least) (Owned q.number is_in_list.0.region) note (ap (slice_get a.notes.items) (sym same) ∙ is_in_list.0.note) in cc) ∙ is_in_list.0.note;
          },
          ap (λ (t : HeapState). class_at t d) same-row ∙ is_in_list.1,
        );
        lined = λ d there. marks.plan.fill ∙ had.lined d there;
        over = λ lines d there. let is_in_list = had.over (sym marks.plan.fill ∙ lines) d there in record {
          region = is_in_list.region;
          note = marks.notes.others d (λ same. let wrong : Unowned least ≡ Owned q.number is_in_list.region =
              one-element (slice_get a.notes.items block) (Unowned least) (Owned q.number is_in_list.region) note (ap (slice_get a.notes.items) (sym same) ∙ is_in_list.note) in cc) ∙ is_in_list.note;
        };
        apart = λ lines. had.apart (sym marks.plan.fill ∙ lines);
      };
      notes = subst (λ f. HasNotes f (state_of b.row) b.notes.items) (sym marks.plan.fill)
          (subst (λ (t : HeapState). HasNotes a.fill t b.notes.items) (sym same-row) (record { len = marks.notes.len ∙ at.notes.len; each = each-noted }));
      fill = marks.plan.fill ∙ at.fill;
      fills = subst FillsHoles (sym marks.plan.fill) at.fills;
      young = marks.plan.young ∙ at.young;
      allowed = marks.plan.allowance ∙ at.allowed;
      lists = lists-moved p a b at.lists (listed-noted a.notes.items b.notes.items a.owned.items block least size note marks.notes at.lists.owned)
          marks.owned marks.plan.counts (ap (λ r. r.layout.blocks) marks.row);
      flags = flags-kept p a b at.flags marks.plan.flags marks.row;
    }

  pub noted-goes : Goes a nothing b
  noted-goes = still-goes a b marks.plan marks.mutators marks.row (ap (λ y. ticket_of (slice_get y.items b.turn)) marks.seats ∙ ap (λ n. ticket_of (slice_get a.seats.items n)) marks.plan.turn)
      (λ k other. ap (λ y. slice_get y.items k) marks.seats) at-noted false (λ _. noted-regions a b block least size note marks ready)
      (foreign-but a b block (Unowned size) marks.notes (λ owner r other is.
      let wrong : Unowned least ≡ Owned owner r = one-element (slice_get a.notes.items block) (Unowned least) (Owned owner r) note is in cc))

  pub noted-ready : MayCall b
  noted-ready = let now = ready.between_calls.some in record {
    turn = turn-kept a b ready.turn marks.plan marks.mutators (ap (λ y. length y.items) marks.seats);
    between_calls = record {
      some = record { epoch = now.epoch; ideal = now.ideal; log = now.log; at = at-noted now.epoch now.ideal now.log now.at };
      filled = λ k owner r is. elim (changes-cases a.notes.items b.notes.items block (Unowned size) marks.notes k (Owned owner r) is) as (λ _. 0 < r.next) [
        | inl here ↦ absurd (let wrong : Owned owner r ≡ Unowned size = here.1 in cc)
        | inr other ↦ ready.between_calls.filled k owner r other.1
      ];
    };
  }

  none-now : (at : ℕ) → HasHole b.fill (state_of b.row) block at size → ⊥
  none-now at hole = no-hole a.fill ready.between_calls.some.at.fills (state_of a.row) block size (omega (arith, some)) small suits none at size (omega arith)
      (subst (λ (t : HeapState). HasHole a.fill t block at size) same-row (subst (λ (f : Kind). HasHole f (state_of b.row) block at size) marks.plan.fill hole))

  pub noted-lacks : Lacks b size block
  noted-lacks = unowned-lacks b block size size noted-ready marks.notes.here none-now

-- a block is as it was, where the row is
lacks-kept : (a b : PlainRow) → MayCall a → b.row ≡ a.row → b.fill ≡ a.fill → number_at_turn b ≡ number_at_turn a → (n k : ℕ)
    → (FillsLines a.fill → LacksLines (regions_at_turn a) (state_of a.row) n k → LacksLines (regions_at_turn b) (state_of b.row) n k)
    → Lacks a n k → Lacks b n k
lacks-kept a b ready row fill number n k lines = lacks-after a b n k fill number (λ there. ap (λ r. owner_at (state_of r) k) row)
    (λ at size. subst (λ r. HasHole a.fill (state_of r) k at size → HasHole a.fill (state_of a.row) k at size) (sym row) (λ hole. hole)) lines

-- the hole region is the next hole of its block
module _ (a b : PlainRow) (block size : ℕ) (region hole : Region) (note : slice_get a.notes.items block ≡ Some (Owned (number_at_turn a) region)) (lines : FillsLines a.fill)
    (current : block_of (seat_at_turn a) 0 ≡ Some block) (some : 1 ≤ size) (next : IsFirstHole a.fill (state_of a.row) block region.end size (Some hole))
    (marks : NotesBlock a b block (Owned (number_at_turn a) hole)) (ready : MayCall a) where
  same-state : state_of b.row ≡ state_of a.row
  same-state = ap (λ r. state_of r) marks.row

  -- it is what is left of the block then
  hole-left : IsRegionIn a.fill (state_of a.row) block region → IsRegionIn a.fill (state_of a.row) block hole
  hole-left left = subst (λ (f : Kind). IsRegionIn f (state_of a.row) block hole) (sym lines)
      (here-next (state_of a.row) block size region hole (omega (arith, some)) (subst (λ (f : Kind). IsRegionIn f (state_of a.row) block region) lines left)
      (subst (λ (f : Kind). IsFirstPart f (state_of a.row) block region.end size hole) lines next)).0

  -- a mutator's block is its own still
  still-mine : (n d : ℕ) → IsRegionOf a.notes.items n d → IsRegionOf b.notes.items n d
  still-mine n d is_in_list = elim (cases_eq d block) as (λ _. IsRegionOf b.notes.items n d) [
    | inl here ↦ (
        let alike : Owned n is_in_list.region ≡ Owned (number_at_turn a) region = one-element (slice_get a.notes.items block) (Owned n is_in_list.region) (Owned (number_at_turn a) region)
        (ap (slice_get a.notes.items) (sym here) ∙ is_in_list.note) note in
        let number : n ≡ number_at_turn a = cc in
        record { region = hole; note = ap (slice_get b.notes.items) here ∙ marks.notes.here ∙ ap (λ q. Some (Owned q hole)) (sym number) })
    | inr other ↦ record { region = is_in_list.region; note = marks.notes.others d other ∙ is_in_list.note }
  ]

  module _ (p : Epoch) (i : IdealHeap) (log : List LogEntry) (at : IsAt p i log a) where
    each-moved : (k : ℕ) (n : BlockNote) → slice_get b.notes.items k ≡ Some n → IsBlockNote a.fill (state_of a.row) k n
    each-moved k n is = elim (changes-cases a.notes.items b.notes.items block (Owned (number_at_turn a) hole) marks.notes k n is) as (λ _. IsBlockNote a.fill (state_of a.row) k n) [
      | inl here ↦ (
          let was = turns.owned-note p i log a at block (number_at_turn a) region note in
          let right : IsOwnedNote a.fill (state_of a.row) block (number_at_turn a) hole = record {
            some = was.some;
            owner = was.owner;
            kind = was.kind;
            left = hole-left was.left;
          } in
          subst (λ (q : ℕ). IsBlockNote a.fill (state_of a.row) q n) (sym here.0) (subst (IsBlockNote a.fill (state_of a.row) block) (sym here.1) right))
      | inr other ↦ at.notes.each k n other.1
    ]

    pub at-moved : IsAt p i log b
    at-moved = record {
      epoch = at.epoch;
      heap = same-state ∙ at.heap;
      numbers = ap (λ y. map (λ z. z.number) y.items) marks.mutators ∙ at.numbers;
      seats = ap (λ y. length y.items) marks.seats ∙ at.seats ∙ ap (λ y. length y.items) (sym marks.mutators);
      each = λ k q y is sits. at.each k q y (ap (λ z. slice_get z.items k) (sym marks.mutators) ∙ is) (ap (λ z. slice_get z.items k) (sym marks.seats) ∙ sits);
      cursors = λ k q y is sits. let had = at.cursors k q y (ap (λ z. slice_get z.items k) (sym marks.mutators) ∙ is) (ap (λ z. slice_get z.items k) (sym marks.seats) ∙ sits) in record {
        classes = had.classes;
        each = λ c d there. let is_in_list = had.each c d there in (still-mine q.number d is_in_list.0, ap (λ (t : HeapState). class_at t d) same-state ∙ is_in_list.1);
        lined = λ d there. marks.plan.fill ∙ had.lined d there;
        over = λ filled d there. still-mine q.number d (had.over (sym marks.plan.fill ∙ filled) d there);
        apart = λ filled. had.apart (sym marks.plan.fill ∙ filled);
      };
      notes = subst (λ f. HasNotes f (state_of b.row) b.notes.items) (sym marks.plan.fill)
          (subst (λ (t : HeapState). HasNotes a.fill t b.notes.items) (sym same-state) (record { len = marks.notes.len ∙ at.notes.len; each = each-moved }));
      fill = marks.plan.fill ∙ at.fill;
      fills = subst FillsHoles (sym marks.plan.fill) at.fills;
      young = marks.plan.young ∙ at.young;
      allowed = marks.plan.allowance ∙ at.allowed;
      lists = lists-moved p a b at.lists
          (listed-moved a.notes.items b.notes.items a.owned.items block (number_at_turn a) (number_at_turn a) region hole note marks.notes at.lists.owned)
          marks.owned marks.plan.counts (ap (λ r. r.layout.blocks) marks.row);
      flags = flags-kept p a b at.flags marks.plan.flags marks.row;
    }

  same-seat : seat_at_turn b ≡ seat_at_turn a
  same-seat = seat-kept a b marks.plan marks.seats

  pub moved-goes : Goes a (effects.takes []) b
  moved-goes = still-goes a b marks.plan marks.mutators marks.row (ap ticket_of same-seat) (λ k other. ap (λ y. slice_get y.items k) marks.seats) at-moved
      true (λ still. absurd (let wrong : true ≡ false = still in cc)) (foreign-but a b block (Owned (number_at_turn a) hole) marks.notes (λ owner r other is.
      let alike : Owned owner r ≡ Owned (number_at_turn a) region = one-element (slice_get a.notes.items block) (Owned owner r) (Owned (number_at_turn a) region) is note in
      other (let same : owner ≡ number_at_turn a = cc in same)))

  block-again : block_of (seat_at_turn b) 0 ≡ Some block
  block-again = ap (λ o. block_of o 0) same-seat ∙ current

  hole-now : (cursors_of (regions_at_turn b)).hole ≡ hole
  hole-now = ap (region_of b.notes.items) block-again ∙ ap region_noted marks.notes.here

  not-over : GoesOver b.fill (regions_at_turn b) size → ⊥
  not-over over = over.tried.full (subst (λ (r : Region). RegionHasRoom r size) (sym hole-now) next.hole.room)

  -- the overflow region stays, and what regions there are for other classes
  moved-rest : KeepsRest b size a b
  moved-rest = let now = ready.between_calls.some in record {
    classes = λ c other. class-else a.notes.items b.notes.items block (Owned (number_at_turn a) hole) marks.notes (seat_at_turn a) (seat_at_turn b) c (ap (λ o. block_of o c) same-seat)
        (λ here. not-over (other (sym (turns.own-region now.epoch now.ideal now.log a now.at ready.turn c block here).1
        ∙ (turns.own-region now.epoch now.ideal now.log a now.at ready.turn 0 block current).1 ∙ sym (lines-for b.fill size (marks.plan.fill ∙ lines)))));
    over_stays = λ _. over-else a.notes.items b.notes.items block (Owned (number_at_turn a) hole) marks.notes (seat_at_turn a) (seat_at_turn b) (ap over_of same-seat)
        (λ over. turns.own-apart now.epoch now.ideal now.log a now.at ready.turn block lines over current);
  }

  pub moved-region : IsRegion b size block hole
  moved-region = record {
    current = inl (
      not-over,
      ap (λ (f : Kind). block_of (seat_at_turn b) (class_for f size)) (marks.plan.fill ∙ lines) ∙ block-again,
    );
    note = marks.notes.here ∙ ap (λ n. Some (Owned n hole)) (sym (number-kept a b marks.plan marks.mutators));
  }

  pub moved-room : RegionHasRoomFor b size
  moved-room = let now = ready.between_calls.some in record {
    turn = turn-kept a b ready.turn marks.plan marks.mutators (ap (λ y. length y.items) marks.seats);
    some = record { epoch = now.epoch; ideal = now.ideal; log = now.log; at = at-moved now.epoch now.ideal now.log now.at };
    block = block;
    current = moved-region.current;
    room = record {
      region = hole;
      note = moved-region.note;
      room = next.hole.room;
      others = λ k owner r is. elim (changes-cases a.notes.items b.notes.items block (Owned (number_at_turn a) hole) marks.notes k (Owned owner r) is) as (λ _. (k ≡ block) ⊎ (0 < r.next)) [
        | inl here ↦ inl here.0
        | inr other ↦ inr (ready.between_calls.filled k owner r other.1)
      ];
    };
  }

  pub moved-offers : IsFull a size → Offers a b size
  moved-offers full = let now = ready.between_calls.some in record {
    block = block;
    region = hole;
    now = moved-region;
    offer = OffersRoom.own_lines (record {
      lines = lines;
      owner = (turns.owned-note now.epoch now.ideal now.log a now.at block (number_at_turn a) region note).owner;
      from = BeginsInLines.at_later_hole current (full.lines lines) hole.end
          (subst (λ (from : ℕ). IsFirstPart kinds.Immix (state_of a.row) block from size hole) (ap (λ (r : Region). r.end) (sym (ap region_noted note)))
          (subst (λ (f : Kind). IsFirstPart f (state_of a.row) block region.end size hole) lines next));
    });
    class = inl (inl (
      turns.note-block now.epoch now.ideal now.log a now.at block (Owned (number_at_turn a) region) note,
      (turns.owned-note now.epoch now.ideal now.log a now.at block (number_at_turn a) region note).owner,
    ));
    others = moved-rest;
  }

  pub moved-others : (n k : ℕ) → k ≢ block → Lacks a n k → Lacks b n k
  moved-others n k other = lacks-kept a b ready marks.row marks.plan.fill (number-kept a b marks.plan marks.mutators) n k
      (λ filled. still-lacks a b (noted-seat a b block (Owned (number_at_turn a) hole) marks) ready n k (ap region_noted (marks.notes.others k other)))

-- a mutator that enters a block
pub enters-goes : (a b : PlainRow) (block size : ℕ) → 1 ≤ size → MayCall a → FindsHole a b block size
    → (blocks : List ℕ) × ((blocks ≡ []) ⊎ (blocks ≡ block ∷ [])) × Goes a (effects.takes blocks) b
enters-goes a b block size some ready (own region note no_lines suits fits returns) = ([], inl refl, returned-goes a b block size region note suits fits no_lines returns ready)
enters-goes a b block size some ready (next_hole region hole note lines current full found marks) = ([], inl refl, moved-goes a b block size region hole note lines current some found marks ready)
enters-goes a b block size some ready (taken least region note hole takes) =
    (block ∷ [], inr refl, taken-goes a b ready block least size region note hole takes)

pub enters-offers : (a b : PlainRow) (block size : ℕ) → 3 ≤ size → size ≤ 2048 → MayCall a → IsFull a size → FindsHole a b block size → Offers a b size
enters-offers a b block size some small ready none (own region note no_lines suits fits returns) = elim (fills-cases a.fill ready.between_calls.some.at.fills) as (λ _. Offers a b size) [
  | inl fills ↦ own-offer a b ready.between_calls.some fills block size region note suits some small fits
      (returned-region a b block size region note suits fits no_lines returns ready) (returned-rest a b block size region note suits fits no_lines returns ready)
  | inr lines ↦ absurd (no_lines lines)
]
enters-offers a b block size some small ready none (next_hole region hole note lines current full found marks) =
    moved-offers a b block size region hole note lines current (omega (arith, some)) found marks ready none
enters-offers a b block size some small ready none (taken least region note hole takes) =
    let now = ready.between_calls.some in
    record {
      block = block;
      region = region;
      now = taken-region a b ready block least size region note hole takes;
      offer = OffersRoom.unowned_hole (record {
        hole = first-hole a.fill (state_of a.row) block size region hole;
        first = λ from there. first-before a.fill (state_of a.row) block size region hole from there;
      }) (turns.unowned-note now.epoch now.ideal now.log a now.at block least note).owner;
      class = inr (taken-class a b ready block least size region note hole takes);
      others = taken-rest a b ready block least size region note hole takes;
    }

pub enters-room : (a b : PlainRow) (block size : ℕ) → 1 ≤ size → MayCall a → FindsHole a b block size → RegionHasRoomFor b size
enters-room a b block size some ready (own region note no_lines suits fits returns) = returned-room a b block size region note suits fits no_lines returns ready
enters-room a b block size some ready (next_hole region hole note lines current full found marks) = moved-room a b block size region hole note lines current some found marks ready
enters-room a b block size some ready (taken least region note hole takes) =
    taken-room a b ready block least size region note hole takes

pub enters-current : (a b : PlainRow) (block size : ℕ) → 1 ≤ size → MayCall a → FindsHole a b block size → AllocatesIn b size block
enters-current a b block size some ready (own region note no_lines suits fits returns) =
    turns.block-tries b.fill b.notes.items (seat_at_turn b) size block (returned-region a b block size region note suits fits no_lines returns ready).current
enters-current a b block size some ready (next_hole region hole note lines current full found marks) =
    turns.block-tries b.fill b.notes.items (seat_at_turn b) size block (moved-region a b block size region hole note lines current some found marks ready).current
enters-current a b block size some ready (taken least region note hole takes) =
    turns.block-tries b.fill b.notes.items (seat_at_turn b) size block
    (taken-region a b ready block least size region note hole takes).current

pub enters-books : (a b : PlainRow) (block size : ℕ) → 1 ≤ size → MayCall a → FindsHole a b block size → books_of b ≡ books_of a
enters-books a b block size some ready finds =
    let goes = enters-goes a b block size some ready finds in books-kept a b (effects.takes goes.0) goes.2 refl refl refl (allowance finds)
  where
    allowance : FindsHole a b block size → b.allowance ≡ a.allowance
    allowance (own region note none suits fits returns) = returns.plan.allowance
    allowance (next_hole region hole note lines current full found marks) = marks.plan.allowance
    allowance (taken least region note hole takes) = takes.plan.allowance

-- a mutator that leaves a block
pub leaves-goes : (a b : PlainRow) (block size : ℕ) → 3 ≤ size → size ≤ 2048 → MayCall a → LacksHole a b block size → Goes a nothing b
leaves-goes a b block size some small ready (known least note most same) = goes-nothing a b same
leaves-goes a b block size some small ready (seen least note none suits marks) = noted-goes a b block least size note none suits some small marks ready
leaves-goes a b block size some small ready (foreign owner region note away same) = goes-nothing a b same
leaves-goes a b block size some small ready (unsuited least note other same) = goes-nothing a b same
leaves-goes a b block size some small ready (lacks_lines region note is lack same) = goes-nothing a b same

pub leaves-books : (a b : PlainRow) (block size : ℕ) → 3 ≤ size → size ≤ 2048 → MayCall a → LacksHole a b block size → books_of b ≡ books_of a
leaves-books a b block size some small ready lacks =
    books-kept a b nothing (leaves-goes a b block size some small ready lacks) refl refl refl (allowance lacks)
  where
    allowance : LacksHole a b block size → b.allowance ≡ a.allowance
    allowance (known least note most same) = ap (λ w. w.allowance) same
    allowance (seen least note none suits marks) = marks.plan.allowance
    allowance (foreign owner region note away same) = ap (λ w. w.allowance) same
    allowance (unsuited least note other same) = ap (λ w. w.allowance) same
    allowance (lacks_lines region note is lack same) = ap (λ w. w.allowance) same

pub leaves-ready : (a b : PlainRow) (block size : ℕ) → 3 ≤ size → size ≤ 2048 → MayCall a → LacksHole a b block size → MayCall b
leaves-ready a b block size some small ready (known least note most same) = subst MayCall (sym same) ready
leaves-ready a b block size some small ready (seen least note none suits marks) = noted-ready a b block least size note none suits some small marks ready
leaves-ready a b block size some small ready (foreign owner region note away same) = subst MayCall (sym same) ready
leaves-ready a b block size some small ready (unsuited least note other same) = subst MayCall (sym same) ready
leaves-ready a b block size some small ready (lacks_lines region note is lack same) = subst MayCall (sym same) ready

-- what the world offers then, it offered before
pub leaves-offers : (a b : PlainRow) (block size : ℕ) → MayCall a → LacksHole a b block size → (c : PlainRow) (n : ℕ) → Offers b c n → Offers a c n
leaves-offers a b block size ready (known least note most same) c n = subst (λ w. Offers b c n → Offers w c n) same (λ offers. offers)
leaves-offers a b block size ready (seen least note none suits marks) c n = offers-back a b c n (ap (λ r. state_of r) marks.row) marks.plan.fill (number-kept a b marks.plan marks.mutators)
    (λ k offset. offered-lines a b (noted-seat a b block (Unowned size) marks) ready (unowned-regions a b block least size note marks) k offset n)
    (noted-regions a b block least size note marks ready)
leaves-offers a b block size ready (foreign owner region note away same) c n = subst (λ w. Offers b c n → Offers w c n) same (λ offers. offers)
leaves-offers a b block size ready (unsuited least note other same) c n = subst (λ w. Offers b c n → Offers w c n) same (λ offers. offers)
leaves-offers a b block size ready (lacks_lines region note is lack same) c n = subst (λ w. Offers b c n → Offers w c n) same (λ offers. offers)

pub enters-others : (a b : PlainRow) (block size : ℕ) → 1 ≤ size → MayCall a → FindsHole a b block size → (n k : ℕ) → k ≢ block → Lacks a n k → Lacks b n k
enters-others a b block size some ready (own region note no_lines suits fits returns) n k other =
    lacks-kept a b ready returns.row returns.plan.fill (number-kept a b returns.plan returns.mutators) n k (λ lines. absurd (no_lines lines))
enters-others a b block size some ready (next_hole region hole note lines current full found marks) n k other = moved-others a b block size region hole note lines current some found marks ready n k other
enters-others a b block size some ready (taken least region note hole takes) n k other = taken-others a b ready block least size region note hole takes n k other

pub leaves-others : (a b : PlainRow) (block size : ℕ) → MayCall a → LacksHole a b block size → (n k : ℕ) → Lacks a n k → Lacks b n k
leaves-others a b block size ready (known least note most same) n k = subst (λ w. Lacks a n k → Lacks w n k) (sym same) (λ lacks. lacks)
leaves-others a b block size ready (seen least note none suits marks) n k = lacks-kept a b ready marks.row marks.plan.fill (number-kept a b marks.plan marks.mutators) n k
    (λ lines. still-lacks a b (noted-seat a b block (Unowned size) marks) ready n k (unowned-regions a b block least size note marks k))
leaves-others a b block size ready (foreign owner region note away same) n k = subst (λ w. Lacks a n k → Lacks w n k) (sym same) (λ lacks. lacks)
leaves-others a b block size ready (unsuited least note other same) n k = subst (λ w. Lacks a n k → Lacks w n k) (sym same) (λ lacks. lacks)
leaves-others a b block size ready (lacks_lines region note is lack same) n k = subst (λ w. Lacks a n k → Lacks w n k) (sym same) (λ lacks. lacks)

pub leaves-lacks : (a b : PlainRow) (block size : ℕ) → 3 ≤ size → size ≤ 2048 → MayCall a → LacksHole a b block size → Lacks b size block
leaves-lacks a b block size some small ready (known least note most same) = subst (λ w. Lacks w size block) (sym same)
    (unowned-lacks a block least size ready note (λ at hole. let now = ready.between_calls.some in (turns.unowned-note now.epoch now.ideal now.log a now.at block least note).none at size most hole))
leaves-lacks a b block size some small ready (seen least note none suits marks) = noted-lacks a b block least size note none suits some small marks ready
leaves-lacks a b block size some small ready (foreign owner region note away same) = subst (λ w. Lacks w size block) (sym same) (foreign-lacks a block size owner region ready note away)
leaves-lacks a b block size some small ready (unsuited least note other same) = subst (λ w. Lacks w size block) (sym same) (unsuited-lacks a block least size ready note other)
leaves-lacks a b block size some small ready (lacks_lines region note is lack same) = subst (λ w. Lacks w size block) (sym same) (own-lines-lack a block size region ready note is lack)

-- a mutator that leaves a block has no room still
noted-full : (a b : PlainRow) (block least size : ℕ) → slice_get a.notes.items block ≡ Some (Unowned least) → NotesBlock a b block (Unowned size) → MayCall a
    → (n : ℕ) → IsFull a n → IsFull b n
noted-full a b block least size note marks ready n full = record {
  own = λ not k here. lacks-kept a b ready marks.row marks.plan.fill (number-kept a b marks.plan marks.mutators) n k (λ lines. absurd (not (marks.plan.fill ∙ lines)))
      (full.own (λ lines. not (marks.plan.fill ∙ lines)) k (ap (λ (f : Kind). block_of (seat_at_turn a) (class_for f n)) (sym marks.plan.fill)
      ∙ sym (ap (λ o. block_of o (class_for b.fill n)) (seat-kept a b marks.plan marks.seats)) ∙ here));
  lines = λ lines. subst (λ (c : Cursors). LacksRoom c n)
      (sym (cursors-same (regions_at_turn a) (regions_at_turn b) (noted-regions a b block least size note marks ready)))
      (full.lines (sym marks.plan.fill ∙ lines));
}

pub leaves-full : (a b : PlainRow) (block size : ℕ) → MayCall a → LacksHole a b block size → IsFull a size → IsFull b size
leaves-full a b block size ready (known least note most same) full = subst (λ w. IsFull w size) (sym same) full
leaves-full a b block size ready (seen least note none suits marks) full = noted-full a b block least size note marks ready size full
leaves-full a b block size ready (foreign owner region note away same) full = subst (λ w. IsFull w size) (sym same) full
leaves-full a b block size ready (unsuited least note other same) full = subst (λ w. IsFull w size) (sym same) full
leaves-full a b block size ready (lacks_lines region note is lack same) full = subst (λ w. IsFull w size) (sym same) full

-- the mutator's own block of the hole region
module _ (a b : PlainRow) (block size : ℕ) (ready : MayCall a) (lines : FillsLines a.fill) (current : block_of (seat_at_turn a) 0 ≡ Some block) where
  mine : IsRegionOf a.notes.items (number_at_turn a) block
  mine = let now = ready.between_calls.some in (turns.own-region now.epoch now.ideal now.log a now.at ready.turn 0 block current).0

  pub own-tries : AllocatesIn a size block
  own-tries = inl (ap (λ (f : Kind). block_of (seat_at_turn a) (class_for f size)) lines ∙ current)

  -- it goes on there
  pub own-goes : 1 ≤ size → FindsHole a b block size → Goes a (effects.takes []) b
  own-goes some (own region note no_lines suits fits returns) = absurd (no_lines lines)
  own-goes some (next_hole region hole note is here full found marks) = moved-goes a b block size region hole note is here some found marks ready
  own-goes some (taken least region note hole takes) = absurd (no-block a block least (number_at_turn a) note mine)

  -- or finds no hole
  pub own-left : LacksHole a b block size → b ≡ a
  own-left (known least note most same) = same
  own-left (seen least note none suits marks) = absurd (no-block a block least (number_at_turn a) note mine)
  own-left (foreign owner region note away same) = same
  own-left (unsuited least note other same) = same
  own-left (lacks_lines region note is lack same) = same

-- no block that is tried for the size has room, if neither a region nor the block of the hole region has
pub spent-blocks : (a b : PlainRow) (size : ℕ) → 3 ≤ size → size ≤ 2048 → MayCall a → IsFull a size
    → ((block : ℕ) → FillsLines a.fill → block_of (seat_at_turn a) 0 ≡ Some block → LacksHole a b block size) → b ≡ a
    → (k : ℕ) → AllocatesIn a size k → Lacks a size k
spent-blocks a b size some small ready full lacks same k tries = elim (fills-cases a.fill ready.between_calls.some.at.fills) as (λ _. Lacks a size k) [
  | inl fills ↦ elim tries as (λ _. Lacks a size k) [
    | inl here ↦ full.own (λ lines. no-lines (subst FillsTailsOrCells lines fills)) k here
    | inr over ↦ absurd (no-lines (subst FillsTailsOrCells over.0 fills))
  ]
  | inr lines ↦ elim tries as (λ _. Lacks a size k) [
    | inl here ↦ subst (λ w. Lacks w size k) same (leaves-lacks a b k size some small ready
        (lacks k lines (ap (λ (f : Kind). block_of (seat_at_turn a) (class_for f size)) (sym lines) ∙ here)))
    | inr over ↦ over-lacks a size k ready lines full over.1 over.2
  ]
]
