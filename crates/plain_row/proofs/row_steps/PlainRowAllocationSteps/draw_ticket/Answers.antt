use Rattle.std.proofs.Common.{◌≡◌, refl, sym, ◌∙◌, ap, subst, arith, List, ℕ, ◌+◌, ◌<◌, ◌≤◌, length}
use Rattle.std.specs.Prelude.{Option, Some, slice_set}
use Rattle.std.specs.Vec.{with_item}
use Rattle.object_model.specs.Objects.{state_of, with_words, word_at}
use Rattle.plain_row.specs.declared.plain_row.PlainRow.{PlainRow}
use Rattle.local_allocators.specs.declared.local_seat.LocalSeat.{LocalSeat}
use Rattle.plain_row.specs.Rows.{seat_at_turn}
use Rattle.local_allocators.specs.Seats.{blocks_of, over_of}
use Rattle.block_regions.specs.Elements.{ChangesAt}
use Rattle.block_regions.proofs.Elements.{set-changes, read-some}
use Rattle.plain_row.proofs.StopWord.{few-words}
use Rattle.plain_row.proofs.TicketDrawn.{DrawsTicket, tickets-few, drawn-goes, drawn-ready, drawn-lacks, drawn-lacked, drawn-full, drawn-offers, drawn-books}
use Rattle.plain_row.specs.Steps.{books_of}
use Rattle.plain_row.specs.SeatLaws.{goes-nothing}
use Rattle.plain_row.proofs.row_steps.PlainRowAllocationSteps.draw_ticket.Goals as goal

pub get-ticket-requires : goal.get-ticket-requires
get-ticket-requires c = let many = few-words c.args.self.now c.requires.ready.between_calls.some in omega arith

pub overflow_add-ticket : goal.overflow_add-ticket
overflow_add-ticket c =
    let w = c.args.self.now in
    let many : 1 < length w.row.words = few-words w c.requires.ready.between_calls.some in
    let small : word_at (state_of w.row) 1 ≤ 1040 = tickets-few w c.requires.ready.between_calls.some in
    let same : c.get-ticket.result ≡ word_at (state_of w.row) 1 = c.get-ticket.ensures in
    omega arith

pub store-requires : goal.store-requires
store-requires c = few-words c.args.self.now c.requires.ready.between_calls.some

pub overflow_cast-ticket : goal.overflow_cast-ticket
overflow_cast-ticket c =
    let w = c.args.self.now in
    let many : 1 < length w.row.words = few-words w c.requires.ready.between_calls.some in
    let small : word_at (state_of w.row) 1 ≤ 1040 = tickets-few w c.requires.ready.between_calls.some in
    let same : c.get-ticket.result ≡ word_at (state_of w.row) 1 = c.get-ticket.ensures in
    omega arith

abbrev seat : goal.After-self-1 → LocalSeat
seat c = record { ticket = Some c.get-ticket.result; blocks = c.index_mut-seat.result.now.blocks; over = c.index_mut-seat.result.now.over }

abbrev end : goal.After-self-1 → PlainRow
end c = record c.store.new.self { seats = with_item c.store.new.self.seats c.store.new.self.turn (seat c) }

ticket-is : (c : goal.After-self-1) → c.get-ticket.result ≡ word_at (state_of c.args.self.now.row) 1
ticket-is c = c.get-ticket.ensures

turn-inside : (c : goal.After-self-1) → c.args.self.now.turn < length c.args.self.now.seats.items
turn-inside c = let e = c.requires.ready.turn.seats in let t = c.requires.ready.turn.turn in omega arith

blocks-are : (c : goal.After-self-1) → c.index_mut-seat.result.now.blocks ≡ blocks_of (seat_at_turn c.args.self.now)
blocks-are c =
    let b = c.store.new.self in
    let there : b.turn < length b.seats.items = subst (λ (w : PlainRow). w.turn < length w.seats.items) (sym c.store.ensures.rest) (turn-inside c) in
    sym (ap blocks_of (read-some b.seats.items b.turn c.index_mut-seat.result.now there c.index_mut-seat.ensures.value))
    ∙ ap (λ (w : PlainRow). blocks_of (seat_at_turn w)) c.store.ensures.rest

over-is : (c : goal.After-self-1) → c.index_mut-seat.result.now.over ≡ over_of (seat_at_turn c.args.self.now)
over-is c =
    let b = c.store.new.self in
    let there : b.turn < length b.seats.items = subst (λ (w : PlainRow). w.turn < length w.seats.items) (sym c.store.ensures.rest) (turn-inside c) in
    sym (ap over_of (read-some b.seats.items b.turn c.index_mut-seat.result.now there c.index_mut-seat.ensures.value))
    ∙ ap (λ (w : PlainRow). over_of (seat_at_turn w)) c.store.ensures.rest

draws : (c : goal.After-self-1) → DrawsTicket c.args.self.now (end c)
draws c =
    let a = c.args.self.now in
    let x : LocalSeat = record { ticket = Some (word_at (state_of a.row) 1); blocks = blocks_of (seat_at_turn a); over = over_of (seat_at_turn a) } in
    let same : seat c ≡ x = ap (λ (n : ℕ). let y : LocalSeat = record { ticket = Some n; blocks = c.index_mut-seat.result.now.blocks; over = c.index_mut-seat.result.now.over } in y) (ticket-is c)
    ∙ ap (λ (o : List (Option ℕ)). let y : LocalSeat = record { ticket = Some (word_at (state_of a.row) 1); blocks = o; over = c.index_mut-seat.result.now.over } in y) (blocks-are c)
    ∙ ap (λ (o : Option ℕ). let y : LocalSeat = record { ticket = Some (word_at (state_of a.row) 1); blocks = blocks_of (seat_at_turn a); over = o } in y) (over-is c) in
    record {
      rest = ap (λ (w : PlainRow). record w { seats = with_item c.store.new.self.seats c.store.new.self.turn (seat c) }) c.store.ensures.rest;
      words = c.store.ensures.words ∙ ap (λ (n : ℕ). with_words (state_of a.row) (slice_set (state_of a.row).words 1 (n + 1))) (ticket-is c);
      seats = subst (λ (xs : List LocalSeat). ChangesAt a.seats.items xs a.turn x)
          (sym (ap (λ (w : PlainRow). slice_set w.seats.items w.turn (seat c)) c.store.ensures.rest ∙ ap (slice_set a.seats.items a.turn) same))
          (set-changes a.seats.items a.turn x (turn-inside c));
    }

pub returns-clause-ready : goal.returns-clause-ready
returns-clause-ready c = drawn-ready c.args.self.now (end c) (draws c) c.requires.ready c.requires.none

pub returns-clause-goes : goal.returns-clause-goes
returns-clause-goes c = drawn-goes c.args.self.now (end c) (draws c) c.requires.ready c.requires.none

pub returns-clause-stays : goal.returns-clause-stays
returns-clause-stays c = drawn-lacks c.args.self.now (end c) (draws c) c.requires.ready c.requires.none

pub returns-clause-full : goal.returns-clause-full
returns-clause-full c = drawn-full c.args.self.now (end c) (draws c) c.requires.ready c.requires.none

pub returns-clause-lacked : goal.returns-clause-lacked
returns-clause-lacked c = λ n k tried. drawn-lacked c.args.self.now (end c) (draws c) c.requires.ready c.requires.none n k

pub returns-clause-same : goal.returns-clause-same
returns-clause-same c = drawn-offers c.args.self.now (end c) (draws c) c.requires.ready c.requires.none

pub returns-clause-books : goal.returns-clause-books
returns-clause-books c =
    drawn-books c.args.self.now (end c) (draws c) c.requires.ready c.requires.none
    ∙ ap (λ (n : ℕ). record (books_of c.args.self.now) { ticket = Some n }) (sym (ticket-is c))

pub returns-clause-next : goal.returns-clause-next
returns-clause-next c = record { later = c.args.self.now; steps = goes-nothing _ _ refl; budget = sym (ticket-is c) }

pub returns-clause-drawn : goal.returns-clause-drawn
returns-clause-drawn c = (c.args.self.now, goes-nothing _ _ refl, sym (ticket-is c), returns-clause-goes c)
