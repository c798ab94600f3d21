-- The mutators, seats and notes of a world that is in an epoch.
use Rattle.std.proofs.Common.{◌≡◌, refl, sym, ◌∙◌, ap, subst, ℕ, ◌+◌, ◌<◌, ◌≤◌, ◌^◌, inl, inr, arith, length, get_or, List, map, Vec, Global}
use Rattle.std.specs.Prelude.{Option, Some, None, slice_get, unwrap_or}
use Rattle.std.specs.List.{Contains}
use Rattle.std.proofs.lemmas.Option.{get_or_from_slice_get}
use Rattle.heap_layout.specs.declared.block.Kind.{Kind}
use Rattle.heap_layout.specs.declared.block.Kind.TheVariants as kinds
use Rattle.heap_layout.specs.declared.region.Region.{Region}
use Rattle.heap_layout.specs.Zones.{row_words, block_start, IsAddress}
use Rattle.heap_layout.specs.Blocks.{IsValidWord}
use Rattle.ideal_heap.specs.declared.name.Name.{Name}
use Rattle.ideal_heap.specs.Names.{IsName}
use Rattle.ideal_heap.specs.Ideal.{IdealHeap}
use Rattle.object_model.specs.Objects.{HeapState, state_of, HasKind, class_at, owner_at}
use Rattle.object_model.specs.Graphs.{MutatorState, IsMutatorState, AreMutators, numbers_of}
use Rattle.object_model.proofs.Among.{all-at}
use Rattle.object_model.proofs.BirthRepresentation.{any-number}
use Rattle.sessions.specs.Fitting.{class_for}
use Rattle.mutator_core.specs.declared.state.Local.{Local}
use Rattle.mutator_core.specs.declared.state.LogEntry.{LogEntry}
use Rattle.mutator_core.specs.declared.state.OwnedBlock.{OwnedBlock}
use Rattle.mutator_core.specs.Machine.{Epoch, mutator_of}
use Rattle.mutator_core.specs.Logs.{machine_after, heap_after, local_after_log, IsListed}
use Rattle.mutator_core.proofs.Fills.{owned-class}
use Rattle.mutator_core.proofs.Lists.{among}
use Rattle.mutator_core.proofs.Regions.{owner-lists}
use Rattle.mutator_calls.specs.declared.need.Mutator.{Mutator}
use Rattle.plain_row.specs.declared.plain_row.PlainRow.{PlainRow}
use Rattle.local_allocators.specs.declared.local_seat.LocalSeat.{LocalSeat}
use Rattle.block_regions.specs.declared.block_notes.BlockNote.{BlockNote}
use Rattle.block_regions.specs.declared.block_notes.BlockNote.TheVariants.{Unowned, Owned}
use Rattle.plain_row.specs.Rows.{IsTurn, mutator_number, births_of, registers_of, mutator_at_turn, seat_at_turn, number_at_turn, regions_at_turn}
use Rattle.local_allocators.specs.Seats.{ticket_of, blocks_of, block_of, over_of}
use Rattle.block_regions.specs.Notes.{IsBlockNote, IsOwnedNote, IsUnownedNote, IsRegionOf}
use Rattle.plain_row.specs.Worlds.{HasState, HasCursors, IsAt, IsInSomeEpoch, RegionHasRoomFor, IsReadableSeat}
use Rattle.plain_row.specs.Changes.{Advances, CountsObject}
use Rattle.block_regions.proofs.Regions.{region-inside}
use Rattle.local_allocators.specs.MutatorRegions.{FillsLines, IsBlockFor, TriesBlock}
use Rattle.local_allocators.specs.NotedRegions.{region_of, region_noted, regions_of}
use Rattle.block_regions.proofs.Lists.{get-some, get-below, get-map, one-element}
use Rattle.block_regions.proofs.Elements.{read-some}
use Rattle.block_regions.proofs.FilledKinds.{filled-valid, lines-suits}
use Rattle.plain_row.proofs.EpochFacts as facts

-- an element that is there is one of the list
pub contains-at : {A : Type 0} (xs : List A) (k : ℕ) (x : A) → slice_get xs k ≡ Some x → Contains xs x
contains-at xs k x is = (k, get-below xs k x is, get_or_from_slice_get xs k x x is)

-- the block that is read of a cursor is there
pub set-in : (xs : List (Option ℕ)) (k b : ℕ) → unwrap_or (slice_get xs k) None ≡ Some b → slice_get xs k ≡ Some (Some b)
set-in xs k b is = of (slice_get xs k) is
  where
    of : (o : Option (Option ℕ)) → unwrap_or o None ≡ Some b → o ≡ Some (Some b)
    of None wrong = let e : None ≡ Some b = wrong in cc
    of (Some q) e = ap (λ (y : Option ℕ). Some y) e

-- mutators' numbers are 1 to 16
pub number-range : (ms : List MutatorState) (n : ℕ) → AreMutators ms → Contains (numbers_of ms) n → (1 ≤ n) × (n ≤ 16)
number-range ms n are known =
    let one = any-number IsMutatorState n ms known are.each in
    subst (λ (q : ℕ). (1 ≤ q) × (q ≤ 16)) one.4.1 (one.4.0.least, one.4.0.most)

-- the region that takes a size is in one block
pub block-one : (fill : Kind) (notes : List BlockNote) (seat : Option LocalSeat) (size j k : ℕ) → IsBlockFor fill (regions_of notes seat) size j → IsBlockFor fill (regions_of notes seat) size k → j ≡ k
block-one fill notes seat size j k (inl one) (inl two) = one-element (block_of seat (class_for fill size)) j k one.1 two.1
block-one fill notes seat size j k (inl one) (inr two) = absurd (one.0 two.0)
block-one fill notes seat size j k (inr one) (inl two) = absurd (two.0 one.0)
block-one fill notes seat size j k (inr one) (inr two) = one-element (over_of seat) j k one.1 two.1

module _ (p : Epoch) (i : IdealHeap) (log : List LogEntry) (w : PlainRow) (at : IsAt p i log w) where
  abbrev s : HeapState
  s = state_of w.row

  pub extent : length w.row.words ≡ row_words w.row.layout.blocks
  extent = (facts.order p i log w at).row.extent

  pub least-blocks : 4 ≤ w.row.layout.blocks
  least-blocks = (facts.order p i log w at).row.least

  pub most-blocks : w.row.layout.blocks ≤ 1024
  most-blocks = (facts.order p i log w at).row.most

  -- the mutator at a place of the list
  module _ (k : ℕ) (m : Mutator) (is : slice_get w.mutators.items k ≡ Some m) where
    listed : slice_get (numbers_of p.mutators) k ≡ Some m.number
    listed = subst (λ (xs : List ℕ). slice_get xs k ≡ Some m.number) at.numbers (get-map (λ (x : Mutator). x.number) w.mutators.items k m is)

    pub known : Contains (numbers_of p.mutators) m.number
    known = contains-at (numbers_of p.mutators) k m.number listed

    pub range : (1 ≤ m.number) × (m.number ≤ 16)
    range = number-range p.mutators m.number at.epoch.represents.mutators known

    pub seat : (x : LocalSeat) × (slice_get w.seats.items k ≡ Some x)
    seat = get-some w.seats.items k (let below = get-below w.mutators.items k m is in let same = at.seats in omega arith)

    pub state : HasState m seat.0 (local_after_log p log m.number)
    state = at.each k m seat.0 is seat.1

    pub registers : length m.registers ≡ 16
    registers =
        let locals = (machine_after p log).locals in
        ap length (sym state.registers)
        ∙ (all-at IsMutatorState (map (λ (q : ℕ). mutator_of (locals q)) (numbers_of p.mutators)) (mutator_of (locals m.number))
        (facts.moment p i log w at).models.mutators.each (among locals (numbers_of p.mutators) m.number known)).registers

  -- mutators at two places have two numbers
  pub differ : (j k : ℕ) (m n : Mutator) → slice_get w.mutators.items j ≡ Some m → slice_get w.mutators.items k ≡ Some n → m.number ≡ n.number → j ≡ k
  differ j k m n first second same =
      let here = listed j m first in
      let there = listed k n second in
      at.epoch.represents.mutators.differ j k (get-below (numbers_of p.mutators) j m.number here) (get-below (numbers_of p.mutators) k n.number there)
      (get_or_from_slice_get (numbers_of p.mutators) j m.number 0 here ∙ same ∙ sym (get_or_from_slice_get (numbers_of p.mutators) k n.number 0 there))

  -- there is a note for each block, and only for those
  pub noted : (k : ℕ) → k < w.row.layout.blocks → k < length w.notes.items
  noted k there = let many = at.notes.len in omega arith

  pub note-block : (k : ℕ) (note : BlockNote) → slice_get w.notes.items k ≡ Some note → k < w.row.layout.blocks
  note-block k note is = let there = get-below w.notes.items k note is in let many = at.notes.len in omega arith

  pub note-right : (k : ℕ) (note : BlockNote) → slice_get w.notes.items k ≡ Some note → IsBlockNote w.fill (state_of w.row) k note
  note-right k note is = at.notes.each k note is

  pub owned-note : (k number : ℕ) (region : Region) → slice_get w.notes.items k ≡ Some (Owned number region) → IsOwnedNote w.fill (state_of w.row) k number region
  owned-note k number region is = at.notes.each k (Owned number region) is

  -- a region lies in its block
  pub note-inside : (k number : ℕ) (region : Region) → slice_get w.notes.items k ≡ Some (Owned number region) → (region.next ≤ region.end) × (region.end ≤ 4096)
  note-inside k number region is = region-inside w.fill (state_of w.row) k region (owned-note k number region is).left

  pub unowned-note : (k least : ℕ) → slice_get w.notes.items k ≡ Some (Unowned least) → IsUnownedNote w.fill (state_of w.row) k least
  unowned-note k least is = at.notes.each k (Unowned least) is

  -- the mutator of an Owned note took the block, for its class
  pub note-listed : (k number : ℕ) (region : Region) → slice_get w.notes.items k ≡ Some (Owned number region) → IsListed (local_after_log p log number) k
  note-listed k number region is =
      let note = owned-note k number region is in
      let same : owner_at (heap_after p log) k ≡ number = subst (λ (t : HeapState). owner_at t k ≡ number) at.heap note.owner in
      subst (λ (n : ℕ). IsListed (local_after_log p log n) k) same
      (owner-lists p at.epoch.ready (machine_after p log) (facts.moment p i log w at).epoch k
      (subst (λ (b : ℕ). k < b) (sym (facts.blocks p i log w at)) (note-block k (Owned number region) is))
      (subst (λ (n : ℕ). 0 < n) (sym same) note.some))

  pub note-taken : (k number : ℕ) (region : Region) → slice_get w.notes.items k ≡ Some (Owned number region)
      → Contains (local_after_log p log number).owned (record { block = k; class = class_at (state_of w.row) k })
  note-taken k number region is =
      let by = note-listed k number region is in
      let owned = ((facts.moment p i log w at).epoch.knows number).owned by.block by.listed in
      let class : by.block.class ≡ class_at (state_of w.row) k =
      sym (owned-class p (heap_after p log) (local_after_log p log number).number by.block owned)
      ∙ ap (λ (t : HeapState). class_at t by.block.block) (sym at.heap) ∙ ap (class_at (state_of w.row)) by.same in
      subst (Contains (local_after_log p log number).owned)
      (ap (λ (b : ℕ). let o : OwnedBlock = record { block = b; class = by.block.class } in o) by.same
      ∙ ap (λ (c : ℕ). let o : OwnedBlock = record { block = k; class = c } in o) class) by.listed

  -- the mutator whose turn it is
  module _ (turn : IsTurn w) where
    pub mutator : (m : Mutator) × (mutator_at_turn w ≡ Some m)
    mutator = get-some w.mutators.items w.turn turn.turn

    pub own-number : number_at_turn w ≡ mutator.0.number
    own-number = ap mutator_number mutator.1

    pub own-known : Contains (numbers_of p.mutators) (number_at_turn w)
    own-known = subst (Contains (numbers_of p.mutators)) (sym own-number) (known w.turn mutator.0 mutator.1)

    pub own-range : (1 ≤ number_at_turn w) × (number_at_turn w ≤ 16)
    own-range = number-range p.mutators (number_at_turn w) at.epoch.represents.mutators own-known

    pub own-seat : (x : LocalSeat) × (seat_at_turn w ≡ Some x)
    own-seat = seat w.turn mutator.0 mutator.1

    abbrev pub own-local : Local
    own-local = local_after_log p log (number_at_turn w)

    pub own-state : HasState mutator.0 own-seat.0 own-local
    own-state = subst (λ (n : ℕ). HasState mutator.0 own-seat.0 (local_after_log p log n)) (sym own-number) (at.each w.turn mutator.0 own-seat.0 mutator.1 own-seat.1)

    pub own-register-count : length (registers_of (mutator_at_turn w)) ≡ 16
    own-register-count = ap (λ o. length (registers_of o)) mutator.1 ∙ registers w.turn mutator.0 mutator.1

    pub own-births : own-local.births ≡ births_of (mutator_at_turn w)
    own-births = own-state.births ∙ sym (ap births_of mutator.1)

    pub own-ticket : own-local.ticket ≡ ticket_of (seat_at_turn w)
    own-ticket = own-state.ticket ∙ sym (ap ticket_of own-seat.1)

    pub own-local-number : own-local.number ≡ number_at_turn w
    own-local-number = (facts.moment p i log w at).epoch.numbers (number_at_turn w)

    -- it owns each block that it allocates in, which has the class of its cursor
    pub own-cursors : HasCursors w.fill w.notes.items (state_of w.row) (number_at_turn w) own-seat.0
    own-cursors = subst (λ (n : ℕ). HasCursors w.fill w.notes.items (state_of w.row) n own-seat.0) (sym own-number) (at.cursors w.turn mutator.0 own-seat.0 mutator.1 own-seat.1)

    pub own-classes : length (blocks_of (seat_at_turn w)) ≡ 19
    own-classes = ap (λ (o : Option LocalSeat). length (blocks_of o)) own-seat.1 ∙ own-cursors.classes

    pub own-region : (class b : ℕ) → block_of (seat_at_turn w) class ≡ Some b → IsRegionOf w.notes.items (number_at_turn w) b × (class_at (state_of w.row) b ≡ class)
    own-region class b is = own-cursors.each class b (set-in own-seat.0.blocks class b (ap (λ (o : Option LocalSeat). block_of o class) (sym own-seat.1) ∙ is))

    -- only under lines has it an overflow region, whose block it owns, and which is not that of the hole region
    pub own-lined : (b : ℕ) → over_of (seat_at_turn w) ≡ Some b → FillsLines w.fill
    own-lined b is = own-cursors.lined b (ap over_of (sym own-seat.1) ∙ is)

    pub own-over : (b : ℕ) → FillsLines w.fill → over_of (seat_at_turn w) ≡ Some b → IsRegionOf w.notes.items (number_at_turn w) b
    own-over b lines is = own-cursors.over lines b (ap over_of (sym own-seat.1) ∙ is)

    pub own-apart : (b : ℕ) → FillsLines w.fill → over_of (seat_at_turn w) ≡ Some b → block_of (seat_at_turn w) 0 ≡ Some b → ⊥
    own-apart b lines over is = own-cursors.apart lines b (ap over_of (sym own-seat.1) ∙ over)
        (set-in own-seat.0.blocks 0 b (ap (λ (o : Option LocalSeat). block_of o 0) (sym own-seat.1) ∙ is))

    -- each of its blocks has a note, and its regions are in order
    pub own-noted : (b : ℕ) → IsRegionOf w.notes.items (number_at_turn w) b → b < length w.notes.items
    own-noted b mine = get-below w.notes.items b (Owned (number_at_turn w) mine.region) mine.note

    pub own-readable : IsReadableSeat w
    own-readable = record {
      turn = turn;
      classes = own-classes;
      blocks = λ class k is. own-noted k (own-region class k (ap (λ (o : Option (Option ℕ)). unwrap_or o None) is)).0;
      over = λ k lines is. own-noted k (own-over k lines is);
    }

    region-order : (o : Option ℕ) → ((k : ℕ) → o ≡ Some k → IsRegionOf w.notes.items (number_at_turn w) k)
        → (region_of w.notes.items o).next ≤ (region_of w.notes.items o).end
    region-order None own = omega arith
    region-order (Some k) own = let mine = own k refl in
        subst (λ (r : Region). r.next ≤ r.end) (sym (ap region_noted mine.note)) (note-inside k (number_at_turn w) mine.region mine.note).0

    pub hole-order : (region_of w.notes.items (block_of (seat_at_turn w) 0)).next ≤ (region_of w.notes.items (block_of (seat_at_turn w) 0)).end
    hole-order = region-order (block_of (seat_at_turn w) 0) (λ k is. (own-region 0 k is).0)

    pub over-order : FillsLines w.fill → (region_of w.notes.items (over_of (seat_at_turn w))).next ≤ (region_of w.notes.items (over_of (seat_at_turn w))).end
    over-order lines = region-order (over_of (seat_at_turn w)) (λ k is. own-over k lines is)

    -- it owns the block of the region that takes a size, which has the size's class
    pub own-block : (size b : ℕ) → IsBlockFor w.fill (regions_at_turn w) size b
        → IsRegionOf w.notes.items (number_at_turn w) b × (class_at (state_of w.row) b ≡ class_for w.fill size)
    own-block size b (inl is) = own-region (class_for w.fill size) b is.1
    own-block size b (inr is) =
        let lines : w.fill ≡ kinds.Immix = is.0.lines in
        let mine = own-over b lines is.1 in
        let there = note-block b (Owned (number_at_turn w) mine.region) mine.note in
        let kind = subst (HasKind (state_of w.row) b) lines (owned-note b (number_at_turn w) mine.region mine.note).kind in (
          mine,
          lines-suits (state_of w.row) b (facts.readable-block p i log w at b there).code kind
              ∙ sym (ap (λ (f : Kind). class_for f size) lines),
        )

    -- the word of a block that it takes
    pub own-valid : (size : ℕ) → IsValidWord (record { kind = w.fill; class = class_for w.fill size; owner = number_at_turn w })
    own-valid size = filled-valid w.fill size (number_at_turn w) at.fills own-range.1

    pub block-noted : (size b : ℕ) → IsBlockFor w.fill (regions_at_turn w) size b → b < length w.notes.items
    block-noted size b is = own-noted b (own-block size b is).0

    -- the note that is read of such a block
    pub own-note : (size b owner : ℕ) (region : Region) → IsBlockFor w.fill (regions_at_turn w) size b
        → slice_get w.notes.items b ≡ Some (Owned owner region) → slice_get w.notes.items b ≡ Some (Owned (number_at_turn w) region)
    own-note size b owner region is note =
        let mine = (own-block size b is).0 in
        let same : Owned owner region ≡ Owned (number_at_turn w) mine.region = one-element (slice_get w.notes.items b) (Owned owner region) (Owned (number_at_turn w) mine.region) note mine.note in
        let number : owner ≡ number_at_turn w = cc in
        subst (λ (n : ℕ). slice_get w.notes.items b ≡ Some (Owned n region)) number note

-- the region that takes a size is one that is tried for it
pub block-tries : (fill : Kind) (notes : List BlockNote) (x : Option LocalSeat) (size k : ℕ) → IsBlockFor fill (regions_of notes x) size k → TriesBlock fill (regions_of notes x) size k
block-tries fill notes x size k (inl is) = inl is.1
block-tries fill notes x size k (inr is) = inr (is.0.lines, is.0.tried.above, is.1)

-- the block for the size, its mutator and its region, as they are read
pub record IsCurrent (w : PlainRow) (size b owner : ℕ) (region : Region) : Type 0 where
  pub current : IsBlockFor w.fill (regions_at_turn w) size b
  pub own : owner ≡ number_at_turn w
  pub note : slice_get w.notes.items b ≡ Some (Owned (number_at_turn w) region)
  pub there : b < length w.notes.items
  pub room : region.next + size ≤ region.end
  pub end : region.end ≤ 4096
  pub block : b < w.row.layout.blocks
  pub class : class_at (state_of w.row) b ≡ class_for w.fill size
  pub kind : HasKind (state_of w.row) b w.fill

pub current-note : (w : PlainRow) (size : ℕ) → RegionHasRoomFor w size → (b owner : ℕ) (region : Region) → IsBlockFor w.fill (regions_at_turn w) size b
    → slice_get w.notes.items b ≡ Some (Owned owner region) → IsCurrent w size b owner region
current-note w size has b owner region current note =
    let p = has.some.epoch in
    let at = has.some.at in
    let here = own-block p has.some.ideal has.some.log w at has.turn size b current in
    let there : b < length w.notes.items = get-below w.notes.items b (Owned (number_at_turn w) here.0.region) here.0.note in
    let same : has.block ≡ b = block-one w.fill w.notes.items (seat_at_turn w) size has.block b has.current current in
    let mine : slice_get w.notes.items b ≡ Some (Owned (number_at_turn w) has.room.region) = subst (λ (k : ℕ). slice_get w.notes.items k ≡ Some (Owned (number_at_turn w) has.room.region)) same has.room.note in
    let alike : Owned owner region ≡ Owned (number_at_turn w) has.room.region = one-element (slice_get w.notes.items b) (Owned owner region) (Owned (number_at_turn w) has.room.region) note mine in
    let region-same : has.room.region ≡ region = cc in
    let own : owner ≡ number_at_turn w = cc in
    record {
      current = current;
      own = own;
      note = subst (λ (k : ℕ). slice_get w.notes.items b ≡ Some (Owned k region)) own note;
      there = there;
      room = subst (λ (r : Region). r.next + size ≤ r.end) region-same has.room.room;
      end = (note-inside p has.some.ideal has.some.log w at b owner region note).1;
      block = note-block p has.some.ideal has.some.log w at b (Owned owner region) note;
      class = here.1;
      kind = (owned-note p has.some.ideal has.some.log w at b owner region note).kind;
    }

pub current-read : (w : PlainRow) (size : ℕ) → RegionHasRoomFor w size → (b : ℕ) (n : BlockNote) (owner : ℕ) (region : Region)
    → IsBlockFor w.fill (regions_at_turn w) size b
    → n ≡ get_or w.notes.items b n → n ≡ Owned owner region → IsCurrent w size b owner region
current-read w size has b n owner region current read is =
    let there = block-noted has.some.epoch has.some.ideal has.some.log w has.some.at has.turn size b current in
    current-note w size has b owner region current (read-some w.notes.items b n there read ∙ ap (λ (y : BlockNote). Some y) is)

-- the words of an object at the start of the region are the heap's
pub record IsPlaced (blocks size block offset : ℕ) : Type 0 where
  pub there : block < blocks
  pub within : offset + size ≤ 4096
  pub address : IsAddress blocks (block_start blocks block + offset)
  pub inside : block_start blocks block + offset + size ≤ row_words blocks

pub advanced-place : (w new : PlainRow) (size block offset : ℕ) → IsInSomeEpoch w → 0 < size → Advances w new size block offset → IsPlaced w.row.layout.blocks size block offset
advanced-place w new size block offset now some by =
    let there : block < w.row.layout.blocks = note-block now.epoch now.ideal now.log w now.at block (Owned (number_at_turn w) by.region) by.was in
    let end : by.region.end ≤ 4096 = (note-inside now.epoch now.ideal now.log w now.at block (number_at_turn w) by.region by.was).1 in
    let begins : by.region.next ≡ offset = by.begins in
    let room : by.region.next + size ≤ by.region.end = by.room in
    let blocks : ℕ = w.row.layout.blocks in
    record {
      there = there;
      within = omega arith;
      address = record { from = omega arith; below = omega arith };
      inside = omega arith;
    }

-- the mutator's next object has a name
pub counted-name : (w advanced new : PlainRow) (d address : ℕ) (n : Name) → IsInSomeEpoch w → IsTurn w → births_of (mutator_at_turn w) + 1 < 2 ^ 32
    → advanced.mutators ≡ w.mutators → advanced.turn ≡ w.turn → CountsObject advanced new d address n → IsName n
counted-name w advanced new d address n now turn few mutators turns by =
    let same : mutator_at_turn w ≡ Some by.mutator =
    ap (λ (k : ℕ). slice_get w.mutators.items k) (sym turns) ∙ ap (λ (v : Vec Mutator Global). slice_get v.items advanced.turn) (sym mutators) ∙ by.was in
    let range = own-range now.epoch now.ideal now.log w now.at turn in
    let number : number_at_turn w ≡ by.mutator.number = ap mutator_number same in
    let births : births_of (mutator_at_turn w) ≡ by.mutator.births = ap births_of same in
    subst IsName (sym by.named) (record { least = omega (arith, range.0); most = omega (arith, range.1); born = omega arith; fits = omega arith })
