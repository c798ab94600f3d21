use Rattle.std.proofs.Common.{rules, ◌≡◌, ◌<◌, ◌≤◌, ◌+◌, ◌-◌, [], ◌∷◌, ◌++◌, length, set, get_or, refl, sym, ap, ◌∙◌, subst, arith}
use Rattle.std.specs.List.{flat_map}
use Rattle.std.specs.List.Sorted.{IsPermutation}
use Rattle.std.proofs.Math.Seq.{map-set_same}
use Rattle.std.proofs.lemmas.List.{append-nil, length-append, length-map, get_or-map}
use Rattle.std.proofs.lemmas.List.Sorted.{IsPermutation-refl, IsPermutation-trans, IsPermutation-append_left}
use Rattle.work_packets.proofs.Pieces.{piece, join, rearranged}
use Rattle.std.proofs.lemmas.Grind.{flat_map-append}
use Rattle.crossbeam_deque.specs.Handles.{worker_deque}
use Rattle.steal_pool.specs.declared.seats.Seat.{Seat}
use Rattle.steal_pool.specs.Ends.{AreTickets, IsTicketFor, stolen}
use Rattle.steal_pool.specs.Seats.{account, desk_of, deques, got_by, HasParts}
use Rattle.steal_pool.proofs.Places.{AreUpTo, all-to-do, place-to-do, place-left, none-to-do, same-count, same-parts, flat-set}
use Rattle.steal_pool.proofs.Tickets.{ticket-last, not-more}
use Rattle.steal_pool.proofs.seats.take_row_back.Goals as goal

pub loop-ticket-init : goal.loop-ticket-init
loop-ticket-init g c = record {
  parts = λ n h. all-to-do (HasParts n) (HasParts (n + 1)) (length c.args.row.items) c.args.seats.now.items c.requires.tickets.1 h;
  account = refl;
  tickets = refl;
  row = c.requires.tickets.0;
  taken = IsPermutation-refl _;
}

pub index_mut-seat-requires : goal.index_mut-seat-requires
index_mut-seat-requires g c =
    let i = c.loop-ticket.invariant in let seats = c.loop-ticket.seats.items in let start = c.args.seats.now.items in let k = c.len-i.result in let rest = c.pop.new.self.items in let t = c.in-Some.ticket in
    let popped : c.loop-ticket.row.items ≡ rest ++ t ∷ [] = c.in-Some.ensures.items in
    let count : k ≡ length rest = search rules in
    let many : length seats ≡ length start = same-count account seats start i.account in
    let of-all : length (deques start) ≡ length start = length-map start (λ s. worker_deque (desk_of s).own) in
    let fewer : length c.loop-ticket.row.items ≤ length (deques start) = not-more (deques start) c.loop-ticket.row.items i.row in
    let longer : length c.loop-ticket.row.items ≡ length rest + 1 = ap length popped ∙ length-append rest (t ∷ []) in
    let lt : k < length seats = omega arith in
    let long : c.loop-ticket.seats.len ≡ length seats = search rules in
    subst (λ m. k < m) (sym long) lt

pub take_back-requires-clause-owner : goal.take_back-requires-clause-owner
take_back-requires-clause-owner g c =
    let i = c.loop-ticket.invariant in let seats = c.loop-ticket.seats.items in let start = c.args.seats.now.items in let k = c.len-i.result in let rest = c.pop.new.self.items in let t = c.in-Some.ticket in
    let popped : c.loop-ticket.row.items ≡ rest ++ t ∷ [] = c.in-Some.ensures.items in
    let count : k ≡ length rest = search rules in
    let many : length seats ≡ length start = same-count account seats start i.account in
    let of-all : length (deques start) ≡ length start = length-map start (λ s. worker_deque (desk_of s).own) in
    let fewer : length c.loop-ticket.row.items ≤ length (deques start) = not-more (deques start) c.loop-ticket.row.items i.row in
    let longer : length c.loop-ticket.row.items ≡ length rest + 1 = ap length popped ∙ length-append rest (t ∷ []) in
    let lt : k < length seats = omega arith in
    let s = c.index_mut-seat.result.now in let is : s ≡ get_or seats k s = c.index_mut-seat.ensures.value in
    let last = ticket-last (deques start) rest t (worker_deque (desk_of s).own) (subst (AreTickets (deques start)) popped i.row) in
    let same : deques seats ≡ deques start = same-parts account (λ a. a.deque) seats start i.account in
    let of-it : get_or (deques start) (length rest) (worker_deque (desk_of s).own) ≡ worker_deque (desk_of s).own =
    ap (λ l. get_or l (length rest) (worker_deque (desk_of s).own)) (sym same) ∙ ap (λ n. get_or (deques seats) n (worker_deque (desk_of s).own)) (sym count)
    ∙ get_or-map (λ s. worker_deque (desk_of s).own) seats k s (worker_deque (desk_of s).own) lt ∙ ap (λ s. worker_deque (desk_of s).own) (sym is) in
    let n = c.requires.parts.0 in
    (subst (HasParts n) (sym is) (place-to-do (HasParts n) (HasParts (n + 1)) (length c.loop-ticket.row.items) k seats s (longer ∙ ap (λ m. m + 1) (sym count)) (i.parts n c.requires.parts.2) lt)).0

pub take_back-requires-clause-ticket : goal.take_back-requires-clause-ticket
take_back-requires-clause-ticket g c =
    let i = c.loop-ticket.invariant in let seats = c.loop-ticket.seats.items in let start = c.args.seats.now.items in let k = c.len-i.result in let rest = c.pop.new.self.items in let t = c.in-Some.ticket in
    let popped : c.loop-ticket.row.items ≡ rest ++ t ∷ [] = c.in-Some.ensures.items in
    let count : k ≡ length rest = search rules in
    let many : length seats ≡ length start = same-count account seats start i.account in
    let of-all : length (deques start) ≡ length start = length-map start (λ s. worker_deque (desk_of s).own) in
    let fewer : length c.loop-ticket.row.items ≤ length (deques start) = not-more (deques start) c.loop-ticket.row.items i.row in
    let longer : length c.loop-ticket.row.items ≡ length rest + 1 = ap length popped ∙ length-append rest (t ∷ []) in
    let lt : k < length seats = omega arith in
    let s = c.index_mut-seat.result.now in let is : s ≡ get_or seats k s = c.index_mut-seat.ensures.value in
    let last = ticket-last (deques start) rest t (worker_deque (desk_of s).own) (subst (AreTickets (deques start)) popped i.row) in
    let same : deques seats ≡ deques start = same-parts account (λ a. a.deque) seats start i.account in
    let of-it : get_or (deques start) (length rest) (worker_deque (desk_of s).own) ≡ worker_deque (desk_of s).own =
    ap (λ l. get_or l (length rest) (worker_deque (desk_of s).own)) (sym same) ∙ ap (λ n. get_or (deques seats) n (worker_deque (desk_of s).own)) (sym count)
    ∙ get_or-map (λ s. worker_deque (desk_of s).own) seats k s (worker_deque (desk_of s).own) lt ∙ ap (λ s. worker_deque (desk_of s).own) (sym is) in
    subst (λ d. IsTicketFor d t) of-it last.1

pub loop-ticket-preserved : goal.loop-ticket-preserved
loop-ticket-preserved g c =
    let i = c.loop-ticket.invariant in let seats = c.loop-ticket.seats.items in let start = c.args.seats.now.items in let k = c.len-i.result in let rest = c.pop.new.self.items in let t = c.in-Some.ticket in
    let popped : c.loop-ticket.row.items ≡ rest ++ t ∷ [] = c.in-Some.ensures.items in
    let count : k ≡ length rest = search rules in
    let many : length seats ≡ length start = same-count account seats start i.account in
    let of-all : length (deques start) ≡ length start = length-map start (λ s. worker_deque (desk_of s).own) in
    let fewer : length c.loop-ticket.row.items ≤ length (deques start) = not-more (deques start) c.loop-ticket.row.items i.row in
    let longer : length c.loop-ticket.row.items ≡ length rest + 1 = ap length popped ∙ length-append rest (t ∷ []) in
    let lt : k < length seats = omega arith in
    let s = c.index_mut-seat.result.now in let is : s ≡ get_or seats k s = c.index_mut-seat.ensures.value in
    let last = ticket-last (deques start) rest t (worker_deque (desk_of s).own) (subst (AreTickets (deques start)) popped i.row) in
    let same : deques seats ≡ deques start = same-parts account (λ a. a.deque) seats start i.account in
    let of-it : get_or (deques start) (length rest) (worker_deque (desk_of s).own) ≡ worker_deque (desk_of s).own =
    ap (λ l. get_or l (length rest) (worker_deque (desk_of s).own)) (sym same) ∙ ap (λ n. get_or (deques seats) n (worker_deque (desk_of s).own)) (sym count)
    ∙ get_or-map (λ s. worker_deque (desk_of s).own) seats k s (worker_deque (desk_of s).own) lt ∙ ap (λ s. worker_deque (desk_of s).own) (sym is) in
    let new = c.take_back.new.seat in let e = c.take_back.ensures in
    let n-is = longer ∙ ap (λ m. m + 1) (sym count) in
    let left : flat_map stolen c.loop-ticket.row.items ≡ flat_map stolen rest ++ stolen t = ap (flat_map stolen) popped ∙ flat_map-append stolen rest (t ∷ []) ∙ ap (λ l. flat_map stolen rest ++ l) (append-nil (stolen t)) in
    let moved : IsPermutation (got_by (get_or seats k s) ++ stolen t) (got_by new ++ []) = subst (IsPermutation (got_by (get_or seats k s) ++ stolen t)) (sym (append-nil (got_by new))) (subst (λ x. IsPermutation (got_by x ++ stolen t) (got_by new)) is e.got) in
    let all = flat-set (λ s. got_by s) seats k new s (stolen t) [] lt moved in
    let turned : IsPermutation (flat_map (λ s. got_by s) seats ++ (flat_map stolen rest ++ stolen t)) ((flat_map (λ s. got_by s) seats ++ stolen t) ++ flat_map stolen rest) =
    rearranged (flat_map (λ s. got_by s) seats ∷ flat_map stolen rest ∷ stolen t ∷ []) (join (piece 0) (join (piece 1) (piece 2))) (join (join (piece 0) (piece 2)) (piece 1)) refl in
    record {
      parts = λ n h. let up = i.parts n h in
          let here = subst (HasParts n) (sym is) (place-to-do (HasParts n) (HasParts (n + 1)) (length c.loop-ticket.row.items) k seats s n-is up lt) in
          subst (λ m. AreUpTo (HasParts n) (HasParts (n + 1)) m (set seats k new)) count (place-left (HasParts n) (HasParts (n + 1)) (length c.loop-ticket.row.items) k seats new n-is up (e.parts n here));
      account = map-set_same account seats k new s (e.account ∙ ap account is) ∙ i.account;
      tickets = map-set_same (λ (s : Seat g.row.T.Denot g.row.W.Denot g.row.K.Denot). s.tickets) seats k new s (e.tickets ∙ ap (λ (s : Seat g.row.T.Denot g.row.W.Denot g.row.K.Denot). s.tickets) is) ∙ i.tickets;
      row = last.0;
      taken = IsPermutation-trans _ _ _ (subst (λ l. IsPermutation (flat_map (λ s. got_by s) start ++ flat_map stolen c.args.row.items) (flat_map (λ s. got_by s) seats ++ l)) left i.taken)
          (IsPermutation-trans _ _ _ turned (IsPermutation-append_left (flat_map stolen rest) _ _ (subst (IsPermutation (flat_map (λ s. got_by s) seats ++ stolen t)) (append-nil (flat_map (λ s. got_by s) (set seats k new))) all)));
    }

pub returns-clause-parts : goal.returns-clause-parts
returns-clause-parts g c = λ n h. none-to-do (HasParts n) (HasParts (n + 1)) (length c.loop-ticket.row.items) c.loop-ticket.seats.items (let none : c.loop-ticket.row.items ≡ [] = search rules in ap length none) (c.loop-ticket.invariant.parts n h)

pub returns-clause-taken : goal.returns-clause-taken
returns-clause-taken g c =
    let none : c.loop-ticket.row.items ≡ [] = search rules in let got = flat_map (λ s. got_by s) c.loop-ticket.seats.items in
    subst (IsPermutation (flat_map (λ s. got_by s) c.args.seats.now.items ++ flat_map stolen c.args.row.items)) (ap (λ l. got ++ flat_map stolen l) none ∙ append-nil got) c.loop-ticket.invariant.taken
