-- The mutator whose turn it is allocates an object.
use Rattle.std.proofs.Common.{◌≡◌, ◌≢◌, refl, sym, ◌∙◌, ap, subst, ℕ, ◌+◌, ◌/◌, ◌%◌, ◌<◌, ◌≤◌, ◌^◌, inl, inr, arith, Bool, List, [], ◌∷◌, length, Vec, Global}
use Rattle.std.specs.Prelude.{Some, slice_get, slice_index, slice_set}
use Rattle.std.specs.List.{Contains}
use Rattle.std.proofs.lemmas.Bool.{cases_eq}
use Rattle.std.proofs.lemmas.List.{get_or-set_same}
use Rattle.heap_layout.specs.Zones.{heap_of, row_words, block_start, block_at, offset_at, IsAddress}
use Rattle.heap_layout.specs.declared.block.Kind.{Kind}
use Rattle.heap_layout.specs.declared.region.Region.{Region}
use Rattle.ideal_heap.specs.declared.command.Command.TheVariants as c
use Rattle.ideal_heap.specs.declared.reply.Reply.TheVariants as r
use Rattle.ideal_heap.specs.declared.name.Name.{Name}
use Rattle.ideal_heap.specs.Names.{IsName, name}
use Rattle.ideal_heap.specs.Ideal.{IdealHeap}
use Rattle.ideal_heap.specs.Runs as runs
use Rattle.ideal_heap.specs.Runs.{entry}
use Rattle.object_model.specs.Objects.{HeapState, state_of, with_words, word_at, block_word, class_at, owner_at, has_kind, is_unlogged, line_marked, IsHeld, name_at, size_of}
use Rattle.object_model.specs.Lawful.{IsWellFormed}
use Rattle.object_model.specs.Graphs.{MutatorState, numbers_of}
use Rattle.object_model.specs.Births.{IsVacant}
use Rattle.object_model.specs.Changes.{WritesObject}
use Rattle.object_model.proofs.Among.{all-at}
use Rattle.object_model.proofs.Births as births
use Rattle.object_model.proofs.Births.{Adds}
use Rattle.object_model.proofs.Frames as frames
use Rattle.sessions.specs.Fitting.{IsTail, HasHole, class_of, class_for}
use Rattle.mutator_core.specs.declared.state.Local.{Local}
use Rattle.mutator_core.specs.declared.state.LogEntry.{LogEntry}
use Rattle.heap_layout.specs.declared.block.Kind.TheVariants as kinds
use Rattle.mutator_core.specs.Machine.{Epoch, Machine, heap_in, mutators_in, mutator_of, next_name}
use Rattle.mutator_core.specs.Guards.{IsAvailable, BeginsRegion, MayBegin}
use Rattle.mutator_core.specs.Histories.{after}
use Rattle.mutator_core.specs.Logs.{machine_after, heap_after, local_after_log, history_of}
use Rattle.mutator_core.proofs.Moments.{Holds, one-of}
use Rattle.mutator_core.proofs.Places.{place-clear}
use Rattle.mutator_calls.specs.Effects.{enters}
use Rattle.plain_row.specs.declared.plain_row.PlainRow.{PlainRow}
use Rattle.local_allocators.specs.declared.local_seat.LocalSeat.{LocalSeat}
use Rattle.block_regions.specs.declared.block_notes.BlockNote.TheVariants.{Owned}
use Rattle.plain_row.specs.Rows.{mutator_number, births_of, registers_of, mutator_at_turn, seat_at_turn, number_at_turn, address_at, regions_at_turn}
use Rattle.local_allocators.specs.Seats.{blocks_of, block_of, over_of}
use Rattle.block_regions.specs.Notes.{FillsTails, FillsHoles, FlagsCover, IsOwnedNote, HasNotes, IsRegionOf}
use Rattle.plain_row.specs.Worlds.{HasState, IsAt, RegionHasRoomFor, Continues}
use Rattle.plain_row.specs.Steps.{Lacks}
use Rattle.local_allocators.specs.MutatorRegions.{FillsLines}
use Rattle.local_allocators.specs.NotedRegions.{region_of, region_noted}
use Rattle.local_allocators.proofs.LineLacks.{Shrinks, same-shrinks, lines-lack-still}
use Rattle.block_regions.specs.Regions.{IsRegionIn, IsRestAfter, without_first}
use Rattle.object_model.proofs.OneKind.{kind-within}
use Rattle.object_model.proofs.Frames.{same-layout}
use Rattle.block_regions.proofs.Regions.{suits-class, hole-kind}
use Rattle.block_regions.proofs.RegionFrames.{region-tail}
use Rattle.block_regions.proofs.Lists.{one-element}
use Rattle.plain_row.proofs.OwnedLists.{lists-moved}
use Rattle.local_allocators.proofs.OwnedLists.{listed-moved}
use Rattle.plain_row.proofs.EpochFacts as facts
use Rattle.plain_row.proofs.Turns as turns
use Rattle.plain_row.proofs.LogStep as stepping
use Rattle.local_allocators.proofs.PublishedObjects as publishing
use Rattle.local_allocators.proofs.PublishedObjects.{Stores, Publishes}
use Rattle.local_allocators.proofs.WrittenWords.{words-written}
use Rattle.local_allocators.proofs.CellRooms as rooms
use Rattle.block_regions.proofs.BlockFlags.{covers-new}
use Rattle.block_regions.proofs.NewNotes as notes
use Rattle.plain_row.proofs.LogSteps.{Follows, at-follows}
use Rattle.plain_row.proofs.Allocated.{IsBorn}

-- the name of the mutator's next object is new
fresh : (p : Epoch) (h : Machine) (i : IdealHeap) (set : ℕ → Type 0) (now : Holds p h i set) (m : ℕ) → Contains (numbers_of p.mutators) m
    → (x : ℕ) → IsHeld (heap_in p h) x → name_at (heap_in p h) x ≢ next_name (h.locals m)
fresh p h i set now m known x holds same =
    let l : Local = h.locals m in
    let found = now.models.births.held x holds in
    let y : MutatorState = found.1 in
    let who : l.number ≡ y.number = sym (ap (λ k. k.mutator) same) ∙ found.4.0 in
    let least : l.births + 1 ≤ y.births = subst (λ (k : ℕ). k ≤ y.births) (ap (λ k. k.birth) same) found.4.1 in
    let count : i.births y.number ≡ y.births = all-at (λ z. i.births z.number ≡ z.births) (mutators_in p h) y now.models.births.births (found.0, found.2, found.3) in
    let own : i.births l.number ≡ l.births = all-at (λ z. i.births z.number ≡ z.births) (mutators_in p h) (mutator_of l) now.models.births.births (one-of p h i set now m known) in
    let equal : y.births ≡ l.births = sym count ∙ ap i.births (sym who) ∙ own in
    omega arith

module _ (a b : PlainRow) (d refs nums : ℕ) (n : Name) (born : IsBorn a b d n refs nums) (has : RegionHasRoomFor a (size_of refs nums)) (register : d < 16)
    (few_refs : refs ≤ 1024) (few_nums : nums ≤ 60000) (small : size_of refs nums ≤ 2048) (few_births : births_of (mutator_at_turn a) + 1 < 2 ^ 32) where
  abbrev x : ℕ
  x = block_start a.row.layout.blocks born.block + born.region.next

  abbrev v : List ℕ
  v = b.row.words

  abbrev m : ℕ
  m = number_at_turn a

  pub mutator-now : mutator_at_turn b ≡ Some (record born.mutator { births = born.mutator.births + 1; registers = slice_set born.mutator.registers d x })
  mutator-now = ap (λ k. slice_get b.mutators.items k) born.turn ∙ born.mutators.here

  pub number-same : number_at_turn b ≡ number_at_turn a
  number-same = ap mutator_number mutator-now ∙ ap mutator_number (sym born.is)

  b-state : state_of b.row ≡ with_words (state_of a.row) v
  b-state = same-layout (state_of a.row) (state_of b.row) born.object.blocks born.object.number born.object.base

  -- an epoch that the world may be in
  module _ (p : Epoch) (i : IdealHeap) (log : List LogEntry) (at : IsAt p i log a) where
    abbrev h : Machine
    h = machine_after p log

    abbrev s : HeapState
    s = heap_after p log

    moment : Holds p (machine_after p log) (runs.heap_after_run i (history_of p log)) (facts.end p i log a at).set
    moment = facts.moment p i log a at

    order : IsWellFormed (heap_after p log)
    order = moment.models.order

    known : Contains (numbers_of p.mutators) (number_at_turn a)
    known = stepping.known p i log a at has.turn

    fills : FillsHoles p.rules.fill
    fills = subst FillsHoles at.fill at.fills

    starts : x ≡ block_start p.before.blocks born.block + born.region.next
    starts = ap (λ q. block_start q born.block + born.region.next) (sym (facts.blocks p i log a at))

    there : born.block < p.before.blocks
    there = subst (λ q. born.block < q) (sym (facts.blocks p i log a at)) (turns.note-block p i log a at born.block (Owned m born.region) born.was)

    note : IsOwnedNote p.rules.fill (heap_after p log) born.block (number_at_turn a) born.region
    note = subst (λ f. IsOwnedNote f (heap_after p log) born.block m born.region) at.fill
        (subst (λ t. IsOwnedNote a.fill t born.block m born.region) at.heap (turns.owned-note p i log a at born.block m born.region born.was))

    taken : Contains (local_after_log p log m).owned (record { block = born.block; class = class_at (heap_after p log) born.block })
    taken = subst (λ (t : HeapState). Contains (local_after_log p log m).owned (record { block = born.block; class = class_at t born.block })) at.heap
        (turns.note-taken p i log a at born.block m born.region born.was)

    some : 0 < size_of refs nums
    some = omega arith

    class-now : class_at (heap_after p log) born.block ≡ class_for a.fill (size_of refs nums)
    class-now = sym (ap (λ (t : HeapState). class_at t born.block) at.heap) ∙ (turns.own-block p i log a at has.turn (size_of refs nums) born.block born.current).1

    fits : p.rules.fill ≡ kinds.Cells → class_of (size_of refs nums) ≡ Some (class_at (heap_after p log) born.block)
    fits cells = (suits-class (heap_after p log) born.block (size_of refs nums) (omega arith) small
        (class-now ∙ ap (λ (f : Kind). class_for f (size_of refs nums)) (at.fill ∙ cells))).class

    room : born.region.next + size_of refs nums ≤ 4096
    room = rooms.inside p at.epoch.ready fills h moment.epoch m born.block x (size_of refs nums) born.region note taken there some born.room fits starts

    block-is : block_at p.before.blocks x ≡ born.block
    block-is = rooms.block-is p.before.blocks born.block x born.region.next (size_of refs nums) there some room starts

    offset-is : offset_at p.before.blocks x ≡ born.region.next
    offset-is = rooms.offset-is p.before.blocks born.block x born.region.next (size_of refs nums) there some room starts

    address : IsAddress p.before.blocks x
    address = rooms.address p.before.blocks born.block x born.region.next (size_of refs nums) there some room starts

    lies : IsAvailable p (local_after_log p log m).owned (local_after_log p log m).made x (size_of refs nums) × BeginsRegion p (local_after_log p log m).made x (size_of refs nums)
    lies = rooms.may-lie p at.epoch.ready fills h moment.epoch m born.block x (size_of refs nums) born.region note taken there some born.room fits starts

    available : IsAvailable p (local_after_log p log m).owned (local_after_log p log m).made x (size_of refs nums)
    available = lies.0

    few : (local_after_log p log m).births + 1 < 2 ^ 32
    few = subst (λ q. q + 1 < 2 ^ 32) (sym (turns.own-births p i log a at has.turn)) few_births

    may : MayBegin p (local_after_log p log m) x refs nums
    may = record {
      none = (stepping.state p i log a at has.turn).none;
      few_births = few;
      few_refs = few_refs;
      few_nums = few_nums;
      small = small;
      available = available;
      region = lies.1;
    }

    own-name : next_name (local_after_log p log m) ≡ n
    own-name = ap (λ q. name q ((local_after_log p log m).births + 1)) (turns.own-local-number p i log a at has.turn ∙ ap mutator_number born.is)
        ∙ ap (λ q. name born.mutator.number (q + 1)) (turns.own-births p i log a at has.turn ∙ ap births_of born.is) ∙ sym born.named

    length-room : x + size_of refs nums ≤ length h.words
    length-room =
        let many : length (machine_after p log).words ≡ row_words p.before.blocks = order.row.extent in
        let is : x ≡ block_start p.before.blocks born.block + born.region.next = starts in
        let blocks : ℕ = p.before.blocks in
        omega (arith, there, room)

    run : Publishes p (machine_after p log) (number_at_turn a) (local_after_log p log (number_at_turn a)) x d refs nums 0
    run = publishing.publishes p m known x d refs nums register (let from : heap_of p.before.blocks ≤ x = address.from in omega arith)
        (let from : heap_of p.before.blocks ≤ x = address.from in let below : x < row_words p.before.blocks = address.below in omega arith)
        h may length-room

    writes : WritesObject (heap_after p log) (with_words (heap_after p log) v) x n refs nums
    writes = subst (λ (t : HeapState). WritesObject t (with_words t v) x n refs nums) at.heap
        (subst (λ (t : HeapState). WritesObject (state_of a.row) t x n refs nums) b-state born.object)

    words-are : state_of b.row ≡ with_words (heap_after p log) v
    words-are = b-state ∙ ap (λ (t : HeapState). with_words t v) at.heap

    words-same : v ≡ (after p (machine_after p log) run.more).words
    words-same = words-written s v (after p h run.more).words x n refs nums address order.row.words writes
        (subst (λ q. Stores p.before.blocks h.words (after p h run.more).words q x refs nums 0) own-name run.words)

    vacant : IsVacant (heap_after p log) x n refs nums
    vacant = record {
      address = address;
      named = subst IsName own-name (record {
        least = subst (λ q. 1 ≤ q) (sym (turns.own-local-number p i log a at has.turn)) (turns.own-range p i log a at has.turn).0;
        most = subst (λ q. q ≤ 16) (sym (turns.own-local-number p i log a at has.turn)) (turns.own-range p i log a at has.turn).1;
        born = omega arith;
        fits = few;
      });
      few_refs = few_refs;
      few_nums = few_nums;
      apart = place-clear p at.epoch.ready h moment.epoch m x (size_of refs nums) available;
      fresh = λ y holds same. fresh p h (runs.heap_after_run i (history_of p log)) (facts.end p i log a at).set moment m known y holds (same ∙ sym own-name);
    }

    adds : Adds (heap_after p log) v x n refs nums
    adds = births.adds s v x n refs nums writes address

    block-words : (k : ℕ) → k < p.before.blocks → block_word (with_words (heap_after p log) v) k ≡ block_word (heap_after p log) k
    block-words = births.block_words s v x n refs nums writes address

    line-words : (k line : ℕ) → k < p.before.blocks → line < 256 → line_marked (with_words (heap_after p log) v) k line ≡ line_marked (heap_after p log) k line
    line-words = births.lines-same s v x n refs nums writes address

    tail : FillsTails a.fill → IsTail (heap_after p log) born.block born.region.next
    tail tails = (region-tail a.fill (heap_after p log) born.block born.region (subst (λ f. IsRegionIn f (heap_after p log) born.block born.region) (sym at.fill) note.left) tails).tail

    rest : IsRestAfter a.fill (heap_after p log) born.block (size_of refs nums) born.region born.left
    rest = subst (λ (t : HeapState). IsRestAfter a.fill t born.block (size_of refs nums) born.region born.left) at.heap born.rest

    notes-are : HasNotes b.fill (state_of b.row) b.notes.items
    notes-are = subst (λ f. HasNotes f (state_of b.row) b.notes.items) (sym born.fill)
        (subst (λ t. HasNotes a.fill t b.notes.items) (sym words-are)
        (notes.notes-new s v x n refs nums adds vacant block-words line-words born.block born.region.next block-is offset-is a.fill at.fills a.notes.items b.notes.items m born.region born.left
        (subst (λ t. HasNotes a.fill t a.notes.items) at.heap at.notes) born.was refl born.room rest born.notes))

    -- the new object is young
    flags-are : FlagsCover p.rules (state_of b.row) b.flags.items
    flags-are = subst (λ (w : Vec Bool Global). FlagsCover p.rules (state_of b.row) w.items) (sym born.flags)
        (subst (λ t. FlagsCover p.rules t a.flags.items) (sym words-are)
        (covers-new p.rules s v x n refs nums adds vacant a.flags.items (subst (λ t. FlagsCover p.rules t a.flags.items) at.heap at.flags)))

    regions : (q k : ℕ) → IsRegionOf a.notes.items q k → IsRegionOf b.notes.items q k
    regions q k old = elim (cases_eq k born.block) as (λ _. IsRegionOf b.notes.items q k) [
      | inl same ↦ (
          let alike : Owned q old.region ≡ Owned (number_at_turn a) born.region = one-element (slice_get a.notes.items k) (Owned q old.region) (Owned (number_at_turn a) born.region)
          old.note (subst (λ j. slice_get a.notes.items j ≡ Some (Owned (number_at_turn a) born.region)) (sym same) born.was) in
          let own : q ≡ number_at_turn a = cc in
          subst (λ j. IsRegionOf b.notes.items q j) (sym same) (subst (λ j. IsRegionOf b.notes.items j born.block) (sym own) (record {
            region = born.left;
            note = born.notes.here;
          })))
      | inr other ↦ record { region = old.region; note = born.notes.others k other ∙ old.note }
    ]

    own-mutator : (stepping.mutator p i log a at has.turn).0 ≡ born.mutator
    own-mutator = one-element (mutator_at_turn a) _ born.mutator (stepping.mutator p i log a at has.turn).1 born.is

    follows : Follows p log a b (after p (machine_after p log) run.more)
    follows = record {
      words = words-are ∙ ap (λ ws. with_words s ws) words-same;
      notes = notes-are;
      regions = regions;
      classes = λ c within. ap (λ (t : HeapState). class_at t c) words-are ∙ ap (λ q. q / 256 % 256) (block-words c within);
      fill = born.fill;
      young = born.young;
      allowed = born.allowance;
      flags = flags-are;
      lists = λ lists. lists-moved p a b lists (listed-moved a.notes.items b.notes.items a.owned.items born.block m m born.region
          born.left born.was born.notes lists.owned) born.owned born.counts
          (ap (λ (t : HeapState). t.blocks) words-are ∙ ap (λ (t : HeapState). t.blocks) (sym at.heap));
      mutator = record born.mutator { births = born.mutator.births + 1; registers = slice_set born.mutator.registers d x };
      seat = (stepping.seat p i log a at has.turn).0;
      mutators = born.mutators;
      seats = record {
        len = ap (λ w. length w.items) born.seats;
        here = ap (λ (w : Vec LocalSeat Global). slice_get w.items a.turn) born.seats ∙ (stepping.seat p i log a at has.turn).1;
        others = λ k other. ap (λ (w : Vec LocalSeat Global). slice_get w.items k) born.seats;
      };
      number = ap mutator_number (sym born.is);
      blocks = ap blocks_of (sym (stepping.seat p i log a at has.turn).1);
      over = ap over_of (sym (stepping.seat p i log a at has.turn).1);
      state = subst (HasState (record born.mutator { births = born.mutator.births + 1; registers = slice_set born.mutator.registers d x }) (stepping.seat p i log a at has.turn).0) (sym run.own) (record {
        births = ap (λ q. q + 1) (was.births ∙ ap (λ q. q.births) own-mutator);
        registers = ap (λ q. slice_set q d x) (was.registers ∙ ap (λ q. q.registers) own-mutator);
        ticket = was.ticket;
        none = refl;
        stored = was.stored;
      });
      others = run.others;
    }
      where
        was : HasState (stepping.mutator p i log a at has.turn).0 (stepping.seat p i log a at has.turn).0 (local_after_log p log (number_at_turn a))
        was = stepping.state p i log a at has.turn

    pub reaches : Continues p i log (number_at_turn a) (enters (c.New d refs nums) (r.New n)) b
    reaches = record {
      more = run.more;
      own = run.mine;
      at = at-follows p i log a at has.turn run.more run.log b follows;
      entries = run.history ∙ ap (λ q. entry m (c.New d refs nums) (r.New q) ∷ []) own-name;
    }

    pub unlogs : (q : ℕ) → is_unlogged (state_of b.row) q ≡ is_unlogged (state_of a.row) q
    unlogs q = ap (λ t. is_unlogged t q) words-are ∙ adds.unlogs q ∙ ap (λ t. is_unlogged t q) (sym at.heap)

    pub kinds-same : (k : ℕ) (kind : Kind) → has_kind (state_of b.row) k kind ≡ has_kind (state_of a.row) k kind
    kinds-same k kind = ap (λ t. has_kind t k kind) words-are ∙ frames.has_kind-same s v block-words k kind ∙ ap (λ t. has_kind t k kind) (sym at.heap)

    -- a word before the block words, and a block word
    pub low-word : (k : ℕ) → k < 18 → word_at (state_of b.row) k ≡ word_at (state_of a.row) k
    low-word k low = ap (λ t. word_at t k) words-are
        ∙ births.zone-word s v x n refs nums writes address k (omega arith) (λ same. let zone = (births.start-in-zone s v x n refs nums writes address).1 in omega arith)
        ∙ ap (λ t. word_at t k) (sym at.heap)

    pub block-word-same : (k : ℕ) → k < a.row.layout.blocks → block_word (state_of b.row) k ≡ block_word (state_of a.row) k
    block-word-same k there = ap (λ t. block_word t k) words-are ∙ block-words k (subst (λ q. k < q) (sym (facts.blocks p i log a at)) there)
        ∙ ap (λ t. block_word t k) (sym at.heap)

    pub owner-now : owner_at (state_of b.row) born.block ≡ number_at_turn b
    owner-now = ap (λ q. q / 65536) (block-word-same born.block (turns.note-block p i log a at born.block (Owned m born.region) born.was))
        ∙ (turns.owned-note p i log a at born.block m born.region born.was).owner ∙ sym number-same

    pub address-now : address_at b d ≡ x
    address-now = ap (λ o. slice_index (registers_of o) d) mutator-now
        ∙ get_or-set_same born.mutator.registers d x 0 (let many : length (registers_of (mutator_at_turn a)) ≡ 16 = turns.own-register-count p i log a at has.turn in
        let same : length (registers_of (mutator_at_turn a)) ≡ length born.mutator.registers = ap (λ o. length (registers_of o)) born.is in omega arith)

    -- a hole that is there was there, in a block with the owner that it had
    hole-then : (k from size : ℕ) → HasHole b.fill (state_of b.row) k from size
        → ((old : ℕ) × HasHole a.fill (state_of a.row) k old size) × (owner_at (state_of b.row) k ≡ owner_at (state_of a.row) k)
    hole-then k from size hole =
        let there-now : HasHole a.fill (with_words (heap_after p log) v) k from size = subst (λ f. HasHole f (with_words (heap_after p log) v) k from size) born.fill
        (subst (λ t. HasHole b.fill t k from size) words-are hole) in
        let within : k < p.before.blocks = kind-within (with_words s v) k a.fill (hole-kind a.fill (with_words s v) k from size there-now) in
        let old = notes.hole-back s v x n refs nums adds vacant block-words line-words born.block born.region.next block-is offset-is a.fill at.fills tail k from size there-now in (
          (old.0, subst (λ t. HasHole a.fill t k old.0 size) (sym at.heap) old.1),
          ap (λ t. owner_at t k) words-are ∙ ap (λ q. q / 65536) (block-words k within) ∙ ap (λ t. owner_at t k) (sym at.heap),
        )

    seat-same : seat_at_turn b ≡ seat_at_turn a
    seat-same = ap (λ (y : Vec LocalSeat Global). slice_get y.items b.turn) born.seats ∙ ap (λ k. slice_get a.seats.items k) born.turn

    -- the region of the object's block begins later
    region-shrinks : FillsLines a.fill → (k : ℕ) → Shrinks (region_of a.notes.items (Some k)) (region_of b.notes.items (Some k))
    region-shrinks lines k = elim (cases_eq k born.block) as (λ _. Shrinks (region_of a.notes.items (Some k)) (region_of b.notes.items (Some k))) [
      | inl same ↦ (
          let rest : born.left ≡ without_first (size_of refs nums) born.region
          = subst (λ (f : Kind). IsRestAfter f (state_of a.row) born.block (size_of refs nums) born.region born.left) lines born.rest in
          let was : region_of a.notes.items (Some born.block) ≡ born.region = ap region_noted born.was in
          let now : region_of b.notes.items (Some born.block) ≡ without_first (size_of refs nums) born.region = ap region_noted born.notes.here ∙ rest in
          subst (λ (q : ℕ). Shrinks (region_of a.notes.items (Some q)) (region_of b.notes.items (Some q))) (sym same)
          (subst (λ (r : Region). Shrinks r (region_of b.notes.items (Some born.block))) (sym was)
          (subst (λ (r : Region). Shrinks born.region r) (sym now) (record { end = refl; later = omega arith }))))
      | inr other ↦ same-shrinks (region_of a.notes.items (Some k)) (region_of b.notes.items (Some k)) (ap region_noted (born.notes.others k other))
    ]

    pub lacks-still : (size k : ℕ) → Lacks a size k → Lacks b size k
    lacks-still size k lacks = record {
      unowned = λ nobody from hole. let old = hole-then k from size hole in lacks.unowned (sym old.1 ∙ nobody) old.0.0 old.0.1;
      own = λ not own from hole. let old = hole-then k from size hole in
          lacks.own (λ is. not (born.fill ∙ is)) (sym old.1 ∙ own ∙ number-same) old.0.0 old.0.1;
      lines = λ is. lines-lack-still (regions_at_turn a) (regions_at_turn b) (state_of a.row) (state_of b.row) size k
          (λ here. ap (λ o. block_of o 0) (sym seat-same) ∙ here) (λ here. ap over_of (sym seat-same) ∙ here) (region-shrinks (sym born.fill ∙ is) k)
          (λ kind. sym (kinds-same k kinds.Immix) ∙ kind)
          (λ here line few.
          let mine = (turns.own-region p i log a at has.turn 0 k (ap (λ o. block_of o 0) (sym seat-same) ∙ here)).0 in
          let within : k < p.before.blocks = subst (λ q. k < q) (sym (facts.blocks p i log a at)) (turns.note-block p i log a at k (Owned m mine.region) mine.note) in
          ap (λ t. line_marked t k line) words-are ∙ line-words k line within few ∙ ap (λ t. line_marked t k line) (sym at.heap))
          (lacks.lines (sym born.fill ∙ is));
    }
