-- The call that allocates an object.
use Rattle.std.proofs.Common.{◌≡◌, refl, sym, ◌∙◌, ap, subst, ℕ, ◌+◌, ◌*◌, ◌/◌, ◌%◌, ◌<◌, ◌≤◌, ◌^◌, inl, inr, arith, add-zero, Bool, true, false, ◌&&◌, not, ◌++◌, length, Vec, Global}
use Rattle.std.specs.Prelude.{Option, Some, slice_get}
use Rattle.std.proofs.lemmas.Bool.{cases_eq}
use Rattle.heap_layout.specs.Zones.{block_start}
use Rattle.heap_layout.specs.declared.block.Kind.{Kind}
use Rattle.heap_layout.specs.declared.block.Kind.TheVariants as kinds
use Rattle.heap_layout.specs.declared.region.Region.{Region}
use Rattle.ideal_heap.specs.declared.command.Command.TheVariants as c
use Rattle.ideal_heap.specs.declared.reply.Reply.TheVariants as r
use Rattle.ideal_heap.specs.declared.name.Name.{Name}
use Rattle.object_model.specs.Objects.{state_of, word_at, block_word, has_kind, HasKind, class_at, cell_words, is_unlogged, size_of}
use Rattle.sessions.specs.Fitting.{IsFreeCell, HasCellFor, class_for}
use Rattle.mutator_calls.specs.Effects.{enters}
use Rattle.mutator_calls.specs.Allocating.{births}
use Rattle.plain_row.specs.declared.plain_row.PlainRow.{PlainRow}
use Rattle.block_regions.specs.declared.block_notes.BlockNote.{BlockNote}
use Rattle.local_allocators.specs.declared.local_seat.LocalSeat.{LocalSeat}
use Rattle.block_regions.specs.declared.block_notes.BlockNote.TheVariants.{Owned}
use Rattle.plan_api.specs.Cursors.{PlacesInRegion}
use Rattle.plain_row.specs.Rows.{births_of, mutator_at_turn, seat_at_turn, number_at_turn, regions_at_turn}
use Rattle.local_allocators.specs.Seats.{ticket_of, block_of, over_of}
use Rattle.local_allocators.specs.MutatorRegions.{FillsLines, GoesOver, cursors_of, TriesBlock}
use Rattle.local_allocators.specs.NotedRegions.{regions_of}
use Rattle.local_allocators.proofs.SeatRegions.{lines-for, class-else, over-else, places-hole, places-over}
use Rattle.plain_row.proofs.Turns.{block-tries}
use Rattle.block_regions.specs.Regions.{IsCellLeft, free, full, IsRegionIn, IsRestAfter, without_first}
use Rattle.block_regions.specs.Notes.{AreFilled}
use Rattle.plain_row.specs.Worlds.{MayCall, RegionHasRoomFor, Continues, Goes}
use Rattle.plain_row.specs.Steps.{Lacks, IsUsed, IsOverflow, KeepsRegion, KeepsRest, AllocatesIn, PlacesAtRegion}
use Rattle.plain_row.proofs.ForeignBlocks.{foreign-but}
use Rattle.local_allocators.proofs.CellRooms.{rest-later}
use Rattle.block_regions.proofs.Regions.{suits-class}
use Rattle.plain_row.proofs.Turns as turns
use Rattle.block_regions.proofs.Lists.{one-element}
use Rattle.plain_row.proofs.Allocated.{IsBorn}
use Rattle.plain_row.proofs.NewObjects as objects

module _ (a b : PlainRow) (d refs nums : ℕ) (n : Name) (born : IsBorn a b d n refs nums) (has : RegionHasRoomFor a (size_of refs nums)) (register : d < 16)
    (few_refs : refs ≤ 1024) (few_nums : nums ≤ 60000) (small : size_of refs nums ≤ 2048) (few_births : births_of (mutator_at_turn a) + 1 < 2 ^ 32) where
  and-true : (q : Bool) → q ≡ (q && not false)
  and-true true = refl
  and-true false = refl

  pub goes : Goes a (births d refs nums n) b
  goes = record {
    turn = born.turn;
    number = objects.number-same a b d refs nums n born has register few_refs few_nums small few_births;
    steps = λ p i log at. let steps = objects.reaches a b d refs nums n born has register few_refs few_nums small few_births p i log at in
        record { more = steps.more; own = steps.own; at = steps.at; entries = steps.entries };
    logged = λ q. objects.unlogs a b d refs nums n born has register few_refs few_nums small few_births has.some.epoch has.some.ideal has.some.log has.some.at q ∙ and-true (is_unlogged (state_of a.row) q);
    granted = λ k. objects.kinds-same a b d refs nums n born has register few_refs few_nums small few_births has.some.epoch has.some.ideal has.some.log has.some.at k kinds.Free ∙ and-true (has_kind (state_of a.row) k kinds.Free);
    free = λ k among. absurd (let below : among.0 < 0 = among.1 in omega arith);
    size = born.object.blocks;
    fill = born.fill;
    blocks = λ k below none. objects.block-word-same a b d refs nums n born has register few_refs few_nums small few_births has.some.epoch has.some.ideal has.some.log has.some.at k below;
    budget = low-word 1 (omega arith) ∙ sym (add-zero (word_at (state_of a.row) 1));
    stop = low-word 0 (omega arith);
    births = ap births_of (objects.mutator-now a b d refs nums n born has register few_refs few_nums small few_births) ∙ ap (λ o. births_of o + 1) (sym born.is);
    ticket = λ none kept. ap (λ y. ticket_of (slice_get y.items b.turn)) born.seats ∙ ap (λ k. ticket_of (slice_get a.seats.items k)) born.turn;
    regions = λ still. absurd (let wrong : true ≡ false = still in cc);
    others = λ k other. (born.mutators.others k other, ap (λ y. slice_get y.items k) born.seats);
    foreign = foreign-but a b born.block (Owned (number_at_turn a) born.left) born.notes (λ owner region other is.
        let alike : Owned owner region ≡ Owned (number_at_turn a) born.region
        = one-element (slice_get a.notes.items born.block) (Owned owner region) (Owned (number_at_turn a) born.region) is born.was in
        other (let same : owner ≡ number_at_turn a = cc in same));
  }
    where
      low-word : (k : ℕ) → k < 18 → word_at (state_of b.row) k ≡ word_at (state_of a.row) k
      low-word = objects.low-word a b d refs nums n born has register few_refs few_nums small few_births has.some.epoch has.some.ideal has.some.log has.some.at

  same-seat : seat_at_turn b ≡ seat_at_turn a
  same-seat = ap (λ (v : Vec LocalSeat Global). slice_get v.items b.turn) born.seats ∙ ap (λ t. slice_get a.seats.items t) born.turn

  pub region : (k : ℕ) → AllocatesIn a (size_of refs nums) k → AllocatesIn b (size_of refs nums) k
  region k is = subst (λ (f : Kind). TriesBlock f (regions_at_turn b) (size_of refs nums) k) (sym born.fill)
      (subst (λ (x : Option LocalSeat). TriesBlock a.fill (regions_of b.notes.items x) (size_of refs nums) k) (sym same-seat) is)

  -- the region for a class that does not take the object is in another block, and so is the overflow region
  other-class : (class : ℕ) → (class ≡ class_for a.fill (size_of refs nums) → GoesOver a.fill (regions_at_turn a) (size_of refs nums))
      → block_of (seat_at_turn a) class ≡ Some born.block → ⊥
  other-class class other here =
      let now = has.some in
      let alike : class ≡ class_for a.fill (size_of refs nums)
      = sym (turns.own-region now.epoch now.ideal now.log a now.at has.turn class born.block here).1
      ∙ (turns.own-block now.epoch now.ideal now.log a now.at has.turn (size_of refs nums) born.block born.current).1 in
      elim born.current as (λ _. ⊥) [
        | inl is ↦ is.0 (other alike)
        | inr is ↦ turns.own-apart now.epoch now.ideal now.log a now.at has.turn born.block is.0.lines is.1
            (ap (block_of (seat_at_turn a)) (sym (alike ∙ lines-for a.fill (size_of refs nums) is.0.lines)) ∙ here)
      ]

  other-over : (GoesOver a.fill (regions_at_turn a) (size_of refs nums) → ⊥) → over_of (seat_at_turn a) ≡ Some born.block → ⊥
  other-over other over =
      let now = has.some in
      let lines = turns.own-lined now.epoch now.ideal now.log a now.at has.turn born.block over in
      elim born.current as (λ _. ⊥) [
        | inl is ↦ turns.own-apart now.epoch now.ideal now.log a now.at has.turn born.block lines over
            (ap (block_of (seat_at_turn a)) (sym (lines-for a.fill (size_of refs nums) lines)) ∙ is.1)
        | inr is ↦ other is.0
      ]

  rest : KeepsRest a (size_of refs nums) a b
  rest = record {
    classes = λ class other. class-else a.notes.items b.notes.items born.block (Owned (number_at_turn a) born.left) born.notes (seat_at_turn a) (seat_at_turn b) class
        (ap (λ (x : Option LocalSeat). block_of x class) same-seat) (other-class class other);
    over_stays = λ other. over-else a.notes.items b.notes.items born.block (Owned (number_at_turn a) born.left) born.notes (seat_at_turn a) (seat_at_turn b)
        (ap over_of same-seat) (other-over other);
  }

  -- an object that overflows the hole region leaves it
  pub keeps : IsOverflow a (size_of refs nums) → KeepsRegion a b
  keeps over = rest.classes 0 (λ _. over.over)

  -- in cells it has one of the class for its size
  left-cell : (r : Region) → r.next + size_of refs nums ≤ r.end → IsCellLeft (state_of a.row) born.block 0 r → IsFreeCell (state_of a.row) born.block r.next
  left-cell r room (free next ends) = next.cell
  left-cell r room (full none starts ends) = absurd (omega arith)

  cell : HasCellFor b.fill (state_of b.row) born.block born.region.next (size_of refs nums)
  cell cells =
      let now = has.some in
      let right = turns.owned-note now.epoch now.ideal now.log a now.at born.block (number_at_turn a) born.region born.was in
      let fill : a.fill ≡ kinds.Cells = sym born.fill ∙ cells in
      let word : block_word (state_of b.row) born.block ≡ block_word (state_of a.row) born.block =
      objects.block-word-same a b d refs nums n born has register few_refs few_nums small few_births now.epoch now.ideal now.log now.at born.block
      (turns.note-block now.epoch now.ideal now.log a now.at born.block (Owned (number_at_turn a) born.region) born.was) in
      let class : class_at (state_of b.row) born.block ≡ class_at (state_of a.row) born.block = ap (λ v. v / 256 % 256) word in
      let was = left-cell born.region born.room (subst (λ (f : Kind). IsRegionIn f (state_of a.row) born.block born.region) fill right.left) in
      record {
        kind = objects.kinds-same a b d refs nums n born has register few_refs few_nums small few_births now.epoch now.ideal now.log now.at born.block kinds.Cells
            ∙ subst (λ (f : Kind). HasKind (state_of a.row) born.block f) fill right.kind;
        class = (suits-class (state_of a.row) born.block (size_of refs nums) (omega arith) small
            ((turns.own-block now.epoch now.ideal now.log a now.at has.turn (size_of refs nums) born.block born.current).1
            ∙ ap (λ (f : Kind). class_for f (size_of refs nums)) fill)).class ∙ ap (λ c. Some c) (sym class);
        index = was.index;
        start = was.start ∙ ap (λ c. was.index * cell_words c) (sym class);
      }

  -- under lines it is in the one of two regions that takes it
  after : FillsLines b.fill → PlacesInRegion (cursors_of (regions_at_turn a)) (cursors_of (regions_at_turn b)) (size_of refs nums) born.block born.region.next
  after lines =
      let now = has.some in
      let fill : a.fill ≡ kinds.Immix = sym born.fill ∙ lines in
      let left : born.left ≡ without_first (size_of refs nums) born.region
      = subst (λ (f : Kind). IsRestAfter f (state_of a.row) born.block (size_of refs nums) born.region born.left) fill born.rest in
      subst (λ (x : Option LocalSeat). PlacesInRegion (cursors_of (regions_at_turn a)) (cursors_of (regions_of b.notes.items x)) (size_of refs nums) born.block born.region.next)
      (sym same-seat) (elim born.current as (λ _. PlacesInRegion (cursors_of (regions_at_turn a)) (cursors_of (regions_of b.notes.items (seat_at_turn a))) (size_of refs nums) born.block born.region.next) [
        | inl is ↦ (let hole : block_of (seat_at_turn a) 0 ≡ Some born.block = ap (block_of (seat_at_turn a)) (sym (lines-for a.fill (size_of refs nums) fill)) ∙ is.1 in
            inl (places-hole a.notes.items b.notes.items (seat_at_turn a) born.block (number_at_turn a) (size_of refs nums) born.region born.left born.was born.notes hole
            (λ over. turns.own-apart now.epoch now.ideal now.log a now.at has.turn born.block fill over hole) born.room left))
        | inr is ↦ inr (places-over a.notes.items b.notes.items (seat_at_turn a) born.block (number_at_turn a) (size_of refs nums) born.region born.left born.was born.notes is.1
            (λ hole. turns.own-apart now.epoch now.ideal now.log a now.at has.turn born.block fill is.1 hole) born.room left a.fill is.0)
      ])

  pub places : PlacesAtRegion a b d (size_of refs nums)
  places = record {
    fill = born.fill;
    block = born.block;
    region = born.region;
    now = record { current = born.current; note = born.was };
    address = objects.address-now a b d refs nums n born has register few_refs few_nums small few_births has.some.epoch has.some.ideal has.some.log has.some.at
        ∙ ap (λ k. block_start k born.block + born.region.next) (sym born.object.blocks);
    owner = objects.owner-now a b d refs nums n born has register few_refs few_nums small few_births has.some.epoch has.some.ideal has.some.log has.some.at;
    current = region born.block (block-tries a.fill a.notes.items (seat_at_turn a) (size_of refs nums) born.block born.current);
    cell = cell;
    region_after = after;
    blocks = λ class. ap (λ (x : Option LocalSeat). block_of x class) same-seat;
    others = rest;
  }

  pub still : (k : ℕ) → IsUsed a k → IsUsed b k
  still k used is = used (sym (objects.kinds-same a b d refs nums n born has register few_refs few_nums small few_births has.some.epoch has.some.ideal has.some.log has.some.at k kinds.Free) ∙ is)

  pub stays : (size k : ℕ) → Lacks a size k → Lacks b size k
  stays = objects.lacks-still a b d refs nums n born has register few_refs few_nums small few_births has.some.epoch has.some.ideal has.some.log has.some.at

  abbrev after_note : BlockNote
  after_note = Owned (number_at_turn a) born.left

  filled : AreFilled b.notes.items
  filled k owner region is = elim (cases_eq k born.block) as (λ _. 0 < region.next) [
    | inl same ↦ (
        let alike : Owned owner region ≡ after_note = one-element (slice_get b.notes.items born.block) (Owned owner region) after_note
        (subst (λ j. slice_get b.notes.items j ≡ Some (Owned owner region)) same is) born.notes.here in
        let own : region ≡ born.left = cc in
        subst (λ q. 0 < q.next) (sym own) (rest-later a.fill (state_of a.row) born.block (size_of refs nums) born.region born.left (omega arith) born.room born.rest))
    | inr other ↦ elim (has.room.others k owner region (sym (born.notes.others k other) ∙ is)) as (λ _. 0 < region.next) [
      | inl current ↦ absurd (other (current ∙ turns.block-one a.fill a.notes.items (seat_at_turn a) (size_of refs nums) has.block born.block has.current born.current))
      | inr more ↦ more
    ]
  ]

  pub ready : MayCall b
  ready = record {
    turn = record {
      turn = subst (λ k. b.turn < k) (sym born.mutators.len) (subst (λ k. k < length a.mutators.items) (sym born.turn) has.turn.turn);
      seats = ap (λ w. length w.items) born.seats ∙ has.turn.seats ∙ sym born.mutators.len;
    };
    between_calls = record {
      some = record {
        epoch = has.some.epoch;
        ideal = has.some.ideal;
        log = has.some.log ++ now.more;
        at = now.at;
      };
      filled = filled;
    };
  }
    where
      now : Continues has.some.epoch has.some.ideal has.some.log (number_at_turn a) (enters (c.New d refs nums) (r.New n)) b
      now = objects.reaches a b d refs nums n born has register few_refs few_nums small few_births has.some.epoch has.some.ideal has.some.log has.some.at
