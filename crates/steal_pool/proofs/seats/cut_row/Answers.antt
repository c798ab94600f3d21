use Rattle.std.proofs.Common.{rules, ◌≡◌, ◌<◌, ◌≤◌, ◌+◌, ◌-◌, [], ◌∷◌, ◌++◌, length, get_or, refl, sym, ap, ◌∙◌, subst, arith}
use Rattle.std.specs.List.{flat_map}
use Rattle.std.proofs.Math.Seq.{map-set_same}
use Rattle.std.proofs.lemmas.List.{append-nil, length-append, length-map, get_or-map}
use Rattle.std.proofs.lemmas.Grind.{flat_map-append}
use Rattle.crossbeam_deque.specs.Handles.{worker_deque, worker_view}
use Rattle.steal_pool.specs.declared.seats.Seat.{Seat}
use Rattle.steal_pool.specs.Ends.{AreTickets, IsTicketFor, stolen}
use Rattle.steal_pool.specs.Seats.{account, desk_of, deques, got_by, HasParts}
use Rattle.steal_pool.proofs.Places.{none-yet, next-place, place-done, all-done, same-count, same-parts}
use Rattle.steal_pool.proofs.Tickets.{ticket-more}
use Rattle.steal_pool.proofs.seats.cut_row.Goals as goal

pub loop-i-init : goal.loop-i-init
loop-i-init g c = record {
  parts = λ n pos h. none-yet (HasParts n) (HasParts (n + 1)) c.args.seats.now.items h;
  account = refl;
  got = refl;
  tickets = refl;
  row = subst (AreTickets (deques c.args.seats.now.items)) (sym c.new-row.ensures.items) tt;
  count = ap length c.new-row.ensures.items;
  none = ap (flat_map stolen) c.new-row.ensures.items;
}

pub cut_ticket-ticket-requires-clause-owner : goal.cut_ticket-ticket-requires-clause-owner
cut_ticket-ticket-requires-clause-owner g c =
    let n = c.requires.0 in let s = c.index_mut-seat.result.now in let seats = c.loop-i.seats.items in
    let below : c.loop-i.i < length c.args.seats.now.items = search rules in
    let many : length seats ≡ length c.args.seats.now.items = same-count account seats c.args.seats.now.items c.loop-i.invariant.account in
    (subst (HasParts (n + 1)) (sym c.index_mut-seat.ensures.value) (next-place (HasParts n) (HasParts (n + 1)) c.loop-i.i seats s (c.loop-i.invariant.parts n c.requires.1 c.requires.2) (omega arith))).0

pub cut_ticket-ticket-requires-clause-parts : goal.cut_ticket-ticket-requires-clause-parts
cut_ticket-ticket-requires-clause-parts g c =
    let n = c.requires.0 in let s = c.index_mut-seat.result.now in let seats = c.loop-i.seats.items in let pos : 0 < n = c.requires.1 in
    let below : c.loop-i.i < length c.args.seats.now.items = search rules in
    let many : length seats ≡ length c.args.seats.now.items = same-count account seats c.args.seats.now.items c.loop-i.invariant.account in
    let here : (worker_view (desk_of s).own).parts ≡ n + 1 = (subst (HasParts (n + 1)) (sym c.index_mut-seat.ensures.value) (next-place (HasParts n) (HasParts (n + 1)) c.loop-i.i seats s (c.loop-i.invariant.parts n pos c.requires.2) (omega arith))).1 in
    omega arith

pub loop-i-preserved : goal.loop-i-preserved
loop-i-preserved g c =
    let i = c.loop-i.invariant in let s = c.index_mut-seat.result.now in let seats = c.loop-i.seats.items in let k = c.loop-i.i in let start = c.args.seats.now.items in
    let new = c.cut_ticket-ticket.new.seat in let e = c.cut_ticket-ticket.ensures in let t = c.cut_ticket-ticket.result in
    let below : k < length start = search rules in
    let many : length seats ≡ length start = same-count account seats start i.account in
    let lt : k < length seats = omega arith in
    let is : s ≡ get_or seats k s = c.index_mut-seat.ensures.value in
    let row : c.push.new.self.items ≡ c.loop-i.row.items ++ t ∷ [] = c.in_ok-push.ensures.items in
    let same : deques seats ≡ deques start = same-parts account (λ a. a.deque) seats start i.account in
    let of-it : get_or (deques start) (length c.loop-i.row.items) (worker_deque (desk_of s).own) ≡ worker_deque (desk_of s).own =
    ap (λ l. get_or l (length c.loop-i.row.items) (worker_deque (desk_of s).own)) (sym same) ∙ ap (λ n. get_or (deques seats) n (worker_deque (desk_of s).own)) i.count
    ∙ get_or-map (λ s. worker_deque (desk_of s).own) seats k s (worker_deque (desk_of s).own) lt ∙ ap (λ s. worker_deque (desk_of s).own) (sym is) in
    let room : length c.loop-i.row.items < length (deques start) = let a : length (deques start) ≡ length start = length-map start (λ s. worker_deque (desk_of s).own) in let b = i.count in omega arith in
    record {
      parts = λ n pos h. let up = i.parts n pos h in
          let here = subst (HasParts (n + 1)) (sym is) (next-place (HasParts n) (HasParts (n + 1)) k seats s up lt) in
          place-done (HasParts n) (HasParts (n + 1)) k seats new up (e.parts n here pos);
      account = map-set_same account seats k new s (e.account ∙ ap account is) ∙ i.account;
      got = map-set_same (λ s. got_by s) seats k new s (e.got ∙ ap (λ s. got_by s) is) ∙ i.got;
      tickets = map-set_same (λ (s : Seat g.row.T.Denot g.row.W.Denot g.row.K.Denot). s.tickets) seats k new s (e.tickets ∙ ap (λ (s : Seat g.row.T.Denot g.row.W.Denot g.row.K.Denot). s.tickets) is) ∙ i.tickets;
      row = subst (AreTickets (deques start)) (sym row) (ticket-more (deques start) c.loop-i.row.items t (worker_deque (desk_of s).own) i.row room (subst (λ d. IsTicketFor d t) (sym of-it) e.ticket));
      count = ap length row ∙ length-append c.loop-i.row.items (t ∷ []) ∙ ap (λ n. n + 1) i.count;
      none = ap (flat_map stolen) row ∙ flat_map-append stolen c.loop-i.row.items (t ∷ []) ∙ ap (λ l. l ++ (stolen t ++ [])) i.none ∙ append-nil (stolen t) ∙ e.none;
    }

pub returns-clause-parts : goal.returns-clause-parts
returns-clause-parts g c = λ n pos h.
    let le : length c.args.seats.now.items ≤ c.loop-i.i = search rules in
    let many : length c.loop-i.seats.items ≡ length c.args.seats.now.items = same-count account c.loop-i.seats.items c.args.seats.now.items c.loop-i.invariant.account in
    all-done (HasParts n) (HasParts (n + 1)) c.loop-i.i c.loop-i.seats.items (omega arith) (c.loop-i.invariant.parts n pos h)

pub returns-clause-row : goal.returns-clause-row
returns-clause-row g c =
    let i = c.loop-i.invariant in let count = i.count in
    let le : length c.args.seats.now.items ≤ c.loop-i.i = search rules in
    let ge : c.loop-i.i ≤ length c.args.seats.now.items = search rules in
    (i.row, omega arith, i.none)
