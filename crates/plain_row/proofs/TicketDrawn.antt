-- A drawn ticket.
use Rattle.std.proofs.Common.{◌≡◌, refl, sym, ◌∙◌, ap, subst, ℕ, ◌+◌, ◌/◌, ◌%◌, ◌^◌, ◌<◌, ◌≤◌, inl, inr, ◌⊎◌, arith, false, length, [], List}
use Rattle.std.specs.Prelude.{Some, None, slice_index, slice_get, slice_set, sum_by}
use Rattle.std.proofs.lemmas.List.{length-map, get_or-set_same, get_or-set_other}
use Rattle.ideal_heap.specs.Ideal.{IdealHeap}
use Rattle.object_model.specs.Objects.{HeapState, state_of, with_words, word_at, block_word, owner_at, has_kind, line_marked}
use Rattle.object_model.specs.Graphs.{numbers_of}
use Rattle.object_model.proofs.OneKind.{kind-within}
use Rattle.heap_layout.specs.declared.block.Kind.{Kind}
use Rattle.heap_layout.specs.declared.block.Kind.TheVariants as kinds
use Rattle.sessions.specs.Fitting.{HasHole, class_for, free_of}
use Rattle.mutator_core.specs.declared.state.LogEntry.{LogEntry}
use Rattle.mutator_core.specs.declared.state.Local.{Local}
use Rattle.mutator_core.specs.declared.state.Event.TheVariants as e
use Rattle.mutator_core.specs.Machine.{Epoch, next}
use Rattle.mutator_core.specs.Tickets.{taken_by, drawn_by, tickets_in}
use Rattle.mutator_core.specs.Logs.{machine_after, heap_after, local_after_log}
use Rattle.mutator_core.proofs.Sums.{sum-more, free-most}
use Rattle.mutator_core.proofs.EpochEnds.{log-counted}
use Rattle.mutator_calls.specs.Effects.{draws as draw_effect}
use Rattle.plain_row.specs.declared.plain_row.PlainRow.{PlainRow}
use Rattle.plain_row.specs.Rows.{number_at_turn, seat_at_turn, mutator_at_turn, births_of, regions_at_turn}
use Rattle.local_allocators.specs.Seats.{blocks_of, block_of, over_of, ticket_of}
use Rattle.block_regions.specs.Elements.{ChangesAt}
use Rattle.local_allocators.specs.declared.local_seat.LocalSeat.{LocalSeat}
use Rattle.block_regions.specs.declared.block_notes.BlockNote.TheVariants.{Owned}
use Rattle.block_regions.specs.Notes.{IsRegionOf}
use Rattle.local_allocators.specs.MutatorRegions.{FillsLines, GoesOver, LacksLines, OffersLines, OffersRoom, KeepsRegions}
use Rattle.local_allocators.specs.NotedRegions.{region_of}
use Rattle.block_regions.proofs.BlockFrames.{SameLines}
use Rattle.local_allocators.proofs.LineLacks.{lines-lack-still, same-shrinks}
use Rattle.plain_row.proofs.RoomOffered.{KeepsSeat, still-lacks, offered-lines, overflowed}
use Rattle.plain_row.specs.Worlds.{IsAt, IsInSomeEpoch, MayCall, Goes}
use Rattle.block_regions.specs.Regions.{BeginsHole}
use Rattle.plain_row.specs.Steps.{Lacks, IsFull, Offers, LeavesClass, IsOffer, books_of}
use Rattle.local_allocators.proofs.SeatRegions.{same-keeps}
use Rattle.local_allocators.proofs.KeptRegions.{others-after, cursors-same}
use Rattle.plan_api.specs.Cursors.{LacksRoom}
use Rattle.mutator_calls.specs.Allocating.{Books}
use Rattle.block_regions.proofs.Regions.{hole-kind}
use Rattle.plain_row.proofs.LogStep as stepping
use Rattle.plain_row.proofs.EntriesMade as entering
use Rattle.plain_row.proofs.EntriesMade.{SteppedWith}
use Rattle.block_regions.proofs.NoteLemmas as notes
use Rattle.plain_row.proofs.EpochFacts as facts
use Rattle.plain_row.proofs.StopWord.{few-words}
use Rattle.plain_row.proofs.Turns as turns

drawn-most : (l : Local) → drawn_by l ≤ taken_by l + 1
drawn-most l = most l.ticket
  where
    most : (o : _) → taken_by l + tickets_in o ≤ taken_by l + 1
    most None = omega arith
    most (Some t) = omega arith

-- the budget word is small
pub tickets-few : (w : PlainRow) → IsInSomeEpoch w → word_at (state_of w.row) 1 ≤ 1040
tickets-few w now =
    let p = now.epoch in
    let counted = log-counted p now.ideal now.log now.at.epoch in
    let ns : List ℕ = numbers_of p.mutators in
    let drawn : ℕ = sum_by (λ m. drawn_by (local_after_log p now.log m)) ns in
    let taken : ℕ = sum_by (λ m. taken_by (local_after_log p now.log m)) ns in
    let less : drawn ≤ taken + length ns = sum-more (λ m. drawn_by (local_after_log p now.log m)) (λ m. taken_by (local_after_log p now.log m)) (λ m. drawn-most (local_after_log p now.log m)) ns in
    let few : length ns ≤ 16 = subst (λ (n : ℕ). n ≤ 16) (sym (length-map p.mutators (λ m. m.number))) now.at.epoch.ready.few in
    let budget : drawn ≡ word_at (heap_after p now.log) 1 = counted.budget in
    let free : free_of p.before ≡ free_of (heap_after p now.log) + taken = counted.free in
    let most : free_of p.before ≤ p.before.blocks = free-most p.before in
    let blocks : p.before.blocks ≡ w.row.layout.blocks = facts.blocks p now.ideal now.log w now.at in
    let bound : w.row.layout.blocks ≤ 1024 = turns.most-blocks p now.ideal now.log w now.at in
    subst (λ (t : HeapState). word_at t 1 ≤ 1040) (sym now.at.heap) (omega arith)

-- a block still has no room if it has no new hole and no new owner
pub lacks-after : (a b : PlainRow) (n k : ℕ) → b.fill ≡ a.fill → number_at_turn b ≡ number_at_turn a
    → (k < b.row.layout.blocks → owner_at (state_of b.row) k ≡ owner_at (state_of a.row) k)
    → ((at size : ℕ) → HasHole a.fill (state_of b.row) k at size → HasHole a.fill (state_of a.row) k at size)
    → (FillsLines a.fill → LacksLines (regions_at_turn a) (state_of a.row) n k → LacksLines (regions_at_turn b) (state_of b.row) n k)
    → Lacks a n k → Lacks b n k
lacks-after a b n k fill number owner hole lines lacks = record {
  unowned = λ nobody at there. lacks.unowned (sym (same at there) ∙ nobody) at (hole at n (then at there));
  own = λ not own at there. lacks.own (λ is. not (fill ∙ is)) (sym (same at there) ∙ own ∙ number) at (hole at n (then at there));
  lines = λ is. lines (sym fill ∙ is) (lacks.lines (sym fill ∙ is));
}
  where
    then : (at : ℕ) → HasHole b.fill (state_of b.row) k at n → HasHole a.fill (state_of b.row) k at n
    then at there = subst (λ (f : Kind). HasHole f (state_of b.row) k at n) fill there

    same : (at : ℕ) → HasHole b.fill (state_of b.row) k at n → owner_at (state_of b.row) k ≡ owner_at (state_of a.row) k
    same at there = owner (kind-within (state_of b.row) k a.fill (hole-kind a.fill (state_of b.row) k at n (then at there)))

-- and what it offers it offered before
offer-before : (a b : PlainRow) (k offset n : ℕ) → b.fill ≡ a.fill → number_at_turn b ≡ number_at_turn a
    → (k < b.row.layout.blocks → block_word (state_of b.row) k ≡ block_word (state_of a.row) k)
    → ((at size : ℕ) → HasHole a.fill (state_of b.row) k at size → HasHole a.fill (state_of a.row) k at size)
    → ((at size : ℕ) → HasHole a.fill (state_of a.row) k at size → HasHole a.fill (state_of b.row) k at size)
    → has_kind (state_of b.row) k kinds.Free ≡ has_kind (state_of a.row) k kinds.Free
    → (OffersLines b.fill (regions_at_turn b) (state_of b.row) (number_at_turn b) k offset n
    → OffersLines a.fill (regions_at_turn a) (state_of a.row) (number_at_turn a) k offset n)
    → IsOffer b k offset n → IsOffer a k offset n
offer-before a b k offset n fill number word hole back kind lines offer = from offer
  where
    then : HasHole b.fill (state_of b.row) k offset n → HasHole a.fill (state_of b.row) k offset n
    then there = subst (λ (f : Kind). HasHole f (state_of b.row) k offset n) fill there

    same : HasHole b.fill (state_of b.row) k offset n → owner_at (state_of b.row) k ≡ owner_at (state_of a.row) k
    same there = ap (λ v. v / 65536) (word (kind-within (state_of b.row) k a.fill (hole-kind a.fill (state_of b.row) k offset n (then there))))

    begins : BeginsHole b.fill (state_of b.row) k offset n → BeginsHole a.fill (state_of a.row) k offset n
    begins there = record {
      hole = hole offset n (then there.hole);
      first = λ at was. there.first at (subst (λ (f : Kind). HasHole f (state_of b.row) k at n) (sym fill) (back at n was));
    }

    from : IsOffer b k offset n → IsOffer a k offset n
    from (OffersRoom.unowned_hole there none) = OffersRoom.unowned_hole (begins there) (sym (same there.hole) ∙ none)
    from (OffersRoom.own_hole there not own) = OffersRoom.own_hole (begins there) (λ is. not (fill ∙ is)) (sym (same there.hole) ∙ own ∙ number)
    from (OffersRoom.free_block free start) = OffersRoom.free_block (sym kind ∙ free) start
    from (OffersRoom.own_lines own) = OffersRoom.own_lines (lines own)

-- the budget word rises by 1, and the mutator has the ticket
pub record DrawsTicket (a b : PlainRow) : Type 0 where
  pub rest : b ≡ record a { row = b.row; seats = b.seats }
  pub words : state_of b.row ≡ with_words (state_of a.row) (slice_set (state_of a.row).words 1 (word_at (state_of a.row) 1 + 1))
  pub seats : ChangesAt a.seats.items b.seats.items a.turn (record { ticket = Some (word_at (state_of a.row) 1); blocks = blocks_of (seat_at_turn a); over = over_of (seat_at_turn a) })

module _ (a b : PlainRow) (draws : DrawsTicket a b) (ready : MayCall a) (none : ticket_of (seat_at_turn a) ≡ None) where
  budget-rises : word_at (state_of b.row) 1 ≡ word_at (state_of a.row) 1 + 1
  budget-rises = ap (λ t. word_at t 1) draws.words ∙ get_or-set_same (state_of a.row).words 1 (word_at (state_of a.row) 1 + 1) 0 (few-words a ready.between_calls.some)

  stop-stays : word_at (state_of b.row) 0 ≡ word_at (state_of a.row) 0
  stop-stays = ap (λ t. word_at t 0) draws.words ∙ get_or-set_other (state_of a.row).words 1 0 (word_at (state_of a.row) 1 + 1) 0 (λ e. omega arith)

  module _ (p : Epoch) (i : IdealHeap) (log : List LogEntry) (at : IsAt p i log a) where
    budget : slice_index (machine_after p log).words 1 ≡ word_at (state_of a.row) 1
    budget = entering.word-is p i log a at ready.turn 1

    may : (local_after_log p log (number_at_turn a)).ticket ≡ None
    may = turns.own-ticket p i log a at ready.turn ∙ none

    more : (slice_index (machine_after p log).words 1 + 1) % 2 ^ 64 ≡ word_at (state_of a.row) 1 + 1
    more = let few : word_at (state_of a.row) 1 ≤ 1040 = tickets-few a (record { epoch = p; ideal = i; log = log; at = at }) in let same = budget in omega arith

    words : state_of b.row ≡ with_words (heap_after p log) (next p (machine_after p log) (number_at_turn a) e.DrawTicket).words
    words = draws.words ∙ ap (λ t. with_words t (slice_set t.words 1 (word_at (state_of a.row) 1 + 1))) at.heap
        ∙ ap (λ q. with_words (heap_after p log) (slice_set (machine_after p log).words 1 q)) (sym more)

    reach : SteppedWith p i log (number_at_turn a) [] 1 false a b
    reach = entering.stepped-with p i log a b at ready.turn e.DrawTicket [] 1 false (record { quiet = refl; untaken = refl; unlogged = refl }) (record {
      may = may;
      words = words;
      updates = record {
        notes = ap (λ w. w.notes) draws.rest;
        fill = ap (λ w. w.fill) draws.rest;
        young = ap (λ w. w.young) draws.rest;
        allowed = ap (λ w. w.allowance) draws.rest;
        owned = ap (λ w. w.owned) draws.rest;
        counts = ap (λ w. w.counts) draws.rest;
        flags = ap (λ w. w.flags) draws.rest;
        mutator = (stepping.mutator p i log a at ready.turn).0;
        seat = record { ticket = Some (word_at (state_of a.row) 1); blocks = blocks_of (seat_at_turn a); over = over_of (seat_at_turn a) };
        mutators = record {
          len = ap (λ w. length w.mutators.items) draws.rest;
          here = ap (λ w. slice_get w.mutators.items a.turn) draws.rest ∙ (stepping.mutator p i log a at ready.turn).1;
          others = λ k other. ap (λ w. slice_get w.mutators.items k) draws.rest;
        };
        seats = draws.seats;
        number = sym (stepping.number-is p i log a at ready.turn);
        blocks = refl;
        over = refl;
        state = let state = stepping.state p i log a at ready.turn in record {
          births = state.births;
          registers = state.registers;
          ticket = ap (λ n. Some n) budget;
          none = state.none;
          stored = state.stored;
        };
      };
      entries = refl;
    }) budget-rises stop-stays (λ none. absurd (let wrong : 1 ≡ 0 = none in omega arith))

    pub draws-keeps : notes.KeepsBlocks (heap_after p log) (next p (machine_after p log) (number_at_turn a) e.DrawTicket).words
    draws-keeps = stepping.keeps p i log a at ready.turn e.DrawTicket may refl refl

  abbrev seat : LocalSeat
  seat = record { ticket = Some (word_at (state_of a.row) 1); blocks = blocks_of (seat_at_turn a); over = over_of (seat_at_turn a) }

  seat-now : seat_at_turn b ≡ Some seat
  seat-now = ap (λ (w : PlainRow). slice_get b.seats.items w.turn) draws.rest ∙ draws.seats.here

  -- the notes and the blocks of the seat stay
  notes-same : b.notes.items ≡ a.notes.items
  notes-same = ap (λ w. w.notes.items) draws.rest

  block-same : (class : ℕ) → block_of (seat_at_turn b) class ≡ block_of (seat_at_turn a) class
  block-same class = ap (λ o. block_of o class) seat-now

  over-same : over_of (seat_at_turn b) ≡ over_of (seat_at_turn a)
  over-same = ap over_of seat-now

  region-same : (k : ℕ) → region_of b.notes.items (Some k) ≡ region_of a.notes.items (Some k)
  region-same k = ap (λ xs. region_of xs (Some k)) notes-same

  -- the mutator keeps its blocks, and these their line bits
  kind-same : (k : ℕ) → has_kind (state_of b.row) k kinds.Immix ≡ has_kind (state_of a.row) k kinds.Immix
  kind-same k =
      let now = ready.between_calls.some in
      ap (λ (t : HeapState). has_kind t k kinds.Immix) (words now.epoch now.ideal now.log now.at)
      ∙ notes.kind-same (heap_after now.epoch now.log) (next now.epoch (machine_after now.epoch now.log) (number_at_turn a) e.DrawTicket).words
      (draws-keeps now.epoch now.ideal now.log now.at) k kinds.Immix
      ∙ ap (λ (t : HeapState). has_kind t k kinds.Immix) (sym now.at.heap)

  lines-same : (k : ℕ) → IsRegionOf a.notes.items (number_at_turn a) k → SameLines (state_of a.row) (state_of b.row) k
  lines-same k mine line few =
      let now = ready.between_calls.some in
      let there : k < now.epoch.before.blocks = subst (λ q. k < q) (sym (facts.blocks now.epoch now.ideal now.log a now.at))
      (turns.note-block now.epoch now.ideal now.log a now.at k (Owned (number_at_turn a) mine.region) mine.note) in
      ap (λ t. line_marked t k line) (words now.epoch now.ideal now.log now.at) ∙ (draws-keeps now.epoch now.ideal now.log now.at).lines k line there few
      ∙ ap (λ t. line_marked t k line) (sym now.at.heap)

  keeps-seat : KeepsSeat a b
  keeps-seat = record {
    fill = ap (λ w. w.fill) draws.rest;
    number = ap number_at_turn draws.rest;
    block = block-same;
    over = over-same;
    kind = kind-same;
    lines = lines-same;
  }

  regions-same : KeepsRegions (regions_at_turn a) (regions_at_turn b)
  regions-same = same-keeps a.notes.items b.notes.items (seat_at_turn a) (seat_at_turn b) notes-same block-same over-same

  pub drawn-goes : Goes a (draw_effect 1) b
  drawn-goes = entering.goes-with a ready [] 1 false b (ap (λ w. w.turn) draws.rest) (ap number_at_turn draws.rest) reach

  pub drawn-ready : MayCall b
  drawn-ready = entering.still-ready-with a ready [] 1 false b (ap (λ w. w.turn) draws.rest) (ap (λ w. w.notes) draws.rest) reach

  -- what lacks room lacks it still
  pub drawn-lacks : (n k : ℕ) → Lacks a n k → Lacks b n k
  drawn-lacks n k =
      let now = ready.between_calls.some in
      let p = now.epoch in
      let ws : List ℕ = (next p (machine_after p now.log) (number_at_turn a) e.DrawTicket).words in
      let keeps = draws-keeps p now.ideal now.log now.at in
      let is = words p now.ideal now.log now.at in
      lacks-after a b n k (ap (λ w. w.fill) draws.rest) (ap number_at_turn draws.rest)
      (λ there. ap (λ t. owner_at t k) is ∙ ap (λ v. v / 65536) (keeps.words k (subst (λ (t : HeapState). k < t.blocks) is there)) ∙ ap (λ t. owner_at t k) (sym now.at.heap))
      (λ at size hole. subst (λ (t : HeapState). HasHole a.fill t k at size) (sym now.at.heap)
      (notes.hole-before (heap_after p now.log) ws keeps a.fill now.at.fills k at size (subst (λ (t : HeapState). HasHole a.fill t k at size) is hole)))
      (λ lines. still-lacks a b keeps-seat ready n k (region-same k))

  -- and did before
  pub drawn-lacked : (n k : ℕ) → Lacks b n k → Lacks a n k
  drawn-lacked n k =
      let now = ready.between_calls.some in
      let p = now.epoch in
      let ws : List ℕ = (next p (machine_after p now.log) (number_at_turn a) e.DrawTicket).words in
      let keeps = draws-keeps p now.ideal now.log now.at in
      let is = words p now.ideal now.log now.at in
      lacks-after b a n k (sym (ap (λ w. w.fill) draws.rest)) (sym (ap number_at_turn draws.rest))
      (λ there. ap (λ t. owner_at t k) now.at.heap ∙ ap (λ v. v / 65536) (sym (keeps.words k (subst (λ (t : HeapState). k < t.blocks) now.at.heap there))) ∙ ap (λ t. owner_at t k) (sym is))
      (λ at size hole. subst (λ (t : HeapState). HasHole b.fill t k at size) (sym is)
      (subst (λ (f : Kind). HasHole f (with_words (heap_after p now.log) ws) k at size) (sym (ap (λ w. w.fill) draws.rest))
      (notes.hole-after (heap_after p now.log) ws keeps a.fill now.at.fills k at size (subst (λ (t : HeapState). HasHole a.fill t k at size) now.at.heap
      (subst (λ (f : Kind). HasHole f (state_of a.row) k at size) (ap (λ w. w.fill) draws.rest) hole)))))
      (λ lines. lines-lack-still (regions_at_turn b) (regions_at_turn a) (state_of b.row) (state_of a.row) n k
      (λ here. block-same 0 ∙ here) (λ over. over-same ∙ over)
      (same-shrinks (region_of b.notes.items (Some k)) (region_of a.notes.items (Some k)) (sym (region-same k)))
      (λ kind. kind-same k ∙ kind)
      (λ here line few. sym (lines-same k (turns.own-region now.epoch now.ideal now.log a now.at ready.turn 0 k here).0 line few)))

  -- no region that was full has room
  pub drawn-full : (n : ℕ) → IsFull a n → IsFull b n
  drawn-full n full = record {
    own = λ not k is. drawn-lacks n k (full.own (λ lines. not (ap (λ w. w.fill) draws.rest ∙ lines)) k
        (sym (block-same (class_for a.fill n)) ∙ ap (λ (f : Kind). block_of (seat_at_turn b) (class_for f n)) (sym (ap (λ w. w.fill) draws.rest)) ∙ is));
    lines = λ is. subst (λ c. LacksRoom c n) (sym (cursors-same (regions_at_turn a) (regions_at_turn b) regions-same))
        (full.lines (sym (ap (λ w. w.fill) draws.rest) ∙ is));
  }

  -- what may leave the class might before
  drawn-leaves : (n k : ℕ) → LeavesClass b n k → LeavesClass a n k
  drawn-leaves n k (inl own) =
      let now = ready.between_calls.some in
      let keeps = draws-keeps now.epoch now.ideal now.log now.at in
      let is = words now.epoch now.ideal now.log now.at in
      let there : k < (heap_after now.epoch now.log).blocks = subst (λ (t : HeapState). k < t.blocks) is own.0 in
      let same : owner_at (state_of b.row) k ≡ owner_at (state_of a.row) k
      = ap (λ t. owner_at t k) is ∙ ap (λ v. v / 65536) (keeps.words k there) ∙ ap (λ t. owner_at t k) (sym now.at.heap) in
      inl (subst (λ (t : HeapState). k < t.blocks) (sym now.at.heap) there, sym same ∙ own.1 ∙ ap number_at_turn draws.rest)
  drawn-leaves n k (inr free) =
      let now = ready.between_calls.some in
      inr (sym ((reach now.epoch now.ideal now.log now.at).kinds k) ∙ free.0, overflowed a b (ap (λ w. w.fill) draws.rest) (regions-same.classes 0) n free.1)

  pub drawn-offers : (c : PlainRow) (n : ℕ) → Offers b c n → Offers a c n
  drawn-offers c n offers =
      let now = ready.between_calls.some in
      let p = now.epoch in
      let ws : List ℕ = (next p (machine_after p now.log) (number_at_turn a) e.DrawTicket).words in
      let keeps = draws-keeps p now.ideal now.log now.at in
      let is = words p now.ideal now.log now.at in
      record {
        block = offers.block;
        region = offers.region;
        now = offers.now;
        offer = offer-before a b offers.block offers.region.next n (ap (λ w. w.fill) draws.rest) (ap number_at_turn draws.rest)
            (λ there. ap (λ t. block_word t offers.block) is ∙ keeps.words offers.block (subst (λ (t : HeapState). offers.block < t.blocks) is there) ∙ ap (λ t. block_word t offers.block) (sym now.at.heap))
            (λ at size hole. subst (λ (t : HeapState). HasHole a.fill t offers.block at size) (sym now.at.heap)
            (notes.hole-before (heap_after p now.log) ws keeps a.fill now.at.fills offers.block at size (subst (λ (t : HeapState). HasHole a.fill t offers.block at size) is hole)))
            (λ at size hole. subst (λ (t : HeapState). HasHole a.fill t offers.block at size) (sym is)
            (notes.hole-after (heap_after p now.log) ws keeps a.fill now.at.fills offers.block at size (subst (λ (t : HeapState). HasHole a.fill t offers.block at size) now.at.heap hole)))
            ((reach p now.ideal now.log now.at).kinds offers.block)
            (offered-lines a b keeps-seat ready region-same offers.block offers.region.next n)
            offers.offer;
        class = elim offers.class as (λ _. LeavesClass a n offers.block ⊎ (block_of (seat_at_turn c) (class_for c.fill n) ≡ Some offers.block)) [
          | inl leaves ↦ inl (drawn-leaves n offers.block leaves)
          | inr is ↦ inr is
        ];
        others = others-after c.fill n (GoesOver c.fill (regions_at_turn c) n) (regions_at_turn a) (regions_at_turn b)
            (regions_at_turn c) regions-same offers.others;
      }

  pub drawn-books : books_of b ≡ record (books_of a) { ticket = Some (word_at (state_of a.row) 1) }
  drawn-books =
      ap (λ (w : PlainRow). let x : Books = record { blocks = b.row.layout.blocks; allowance = w.allowance; births = births_of (mutator_at_turn w); ticket = ticket_of (slice_get b.seats.items w.turn) } in x) draws.rest
      ∙ ap (λ (n : ℕ). let x : Books = record { blocks = n; allowance = a.allowance; births = births_of (mutator_at_turn a); ticket = ticket_of (slice_get b.seats.items a.turn) } in x) (ap (λ (t : HeapState). t.blocks) draws.words)
      ∙ ap (λ o. let x : Books = record { blocks = a.row.layout.blocks; allowance = a.allowance; births = births_of (mutator_at_turn a); ticket = ticket_of o } in x) draws.seats.here
