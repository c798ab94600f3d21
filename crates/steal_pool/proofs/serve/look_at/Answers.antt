use Rattle.std.proofs.Common.{◌≡◌, ◌<◌, List, [], ◌∷◌, ◌++◌, All, map, length, set, get_or, refl, sym, ap, ◌∙◌, subst, append_assoc, arith}
use Rattle.std.specs.List.{flat_map}
use Rattle.std.specs.List.Sorted.{IsPermutation}
use Rattle.std.proofs.lemmas.List.{append-nil, length-map, get_or-map, length-set}
use Rattle.std.proofs.lemmas.List.Elements.{All-cons, All-nil}
use Rattle.std.proofs.lemmas.List.Sorted.{IsPermutation-refl, IsPermutation-append_right}
use Rattle.crossbeam_deque.specs.Handles.{stealer_deque}
use Rattle.work_packets.specs.declared.packet.Packet.{Packet}
use Rattle.steal_pool.specs.declared.desk.Desk.{Desk}
use Rattle.steal_pool.specs.Ends.{IsOwner, IsTicketFor, AreTickets, stolen, takings}
use Rattle.steal_pool.specs.Seats.{desk_of, got_by}
use Rattle.steal_pool.specs.Served.{IsFitting}
use Rattle.steal_pool.proofs.Places.{flat-set, flat-set-same}
use Rattle.steal_pool.proofs.Tickets.{ticket-at, ticket-set}
use Rattle.steal_pool.proofs.Rounds.{goes-looked, goes-stolen}
use Rattle.steal_pool.proofs.serve.look_at.Goals as goal

pub finish-requires-clause-owner : goal.finish-requires-clause-owner
finish-requires-clause-owner g c κs within = subst (λ (d : Desk g.row.T.Denot g.row.W.Denot g.row.K.Denot). IsOwner d.own) (sym c.deref_mut-desk.ensures.value) c.requires.owner

pub finish-requires-clause-fitting : goal.finish-requires-clause-fitting
finish-requires-clause-fitting g c κs within = subst (λ (d : Desk g.row.T.Denot g.row.W.Denot g.row.K.Denot). IsFitting g.K.Fits.fits c.args.b g.W.PacketWorker.takes (g.W.PacketWorker.home d.worker)) (sym c.deref_mut-desk.ensures.value) c.requires.fitting

pub finish-requires-clause-fit : goal.finish-requires-clause-fit
finish-requires-clause-fit g c κs within =
    let none : c.deref_mut-desk.result.now.backlog.items ≡ [] = ap (λ (d : Desk g.row.T.Denot g.row.W.Denot g.row.K.Denot). d.backlog.items) c.deref_mut-desk.ensures.value ∙ c.requires.none in
    subst (All g.K.Fits.fits) (sym (c.in_ok-push-in-Some.ensures.items ∙ ap (λ l. l ++ c.in-Some.p ∷ []) none)) (All-cons g.K.Fits.fits c.in-Some.p [] c.in-Some.ensures.found.0 (All-nil g.K.Fits.fits))

pub steal_from-requires : goal.steal_from-requires
steal_from-requires g c =
    let i = c.args.i in let th = c.index-thief.result.now in let ticket = c.index_mut-ticket.result.now in let tickets = c.args.seat.now.tickets.items in let thieves = c.args.thieves.now.items in let ds = map (λ t. stealer_deque t) thieves in
    let of-all : length ds ≡ length thieves = length-map thieves (λ t. stealer_deque t) in
    let many : length tickets ≡ length ds = c.requires.tickets.1 in
    let place : i < length thieves = c.requires.place in
    let lt : i < length tickets = omega arith in
    let of-it : get_or ds i (stealer_deque th) ≡ stealer_deque th = get_or-map (λ t. stealer_deque t) thieves i th (stealer_deque th) place ∙ ap (λ t. stealer_deque t) (sym c.index-thief.ensures) in
    subst (λ t. IsTicketFor (stealer_deque th) t) (sym c.index_mut-ticket.ensures.value) (subst (λ d. IsTicketFor d (get_or tickets i ticket)) of-it (ticket-at ds tickets i (stealer_deque th) ticket c.requires.tickets.0 lt))

pub returns-in-None-clause-goes : goal.returns-in-None-clause-goes
returns-in-None-clause-goes g c =
    goes-looked g.W.PacketWorker.home g.W.PacketWorker.takes g.W.PacketWorker.steps c.args.b c.args.seat.now _ refl
    (ap (λ l. takings (desk_of c.args.seat.now).own ++ l) (flat-set-same stolen c.args.seat.now.tickets.items c.args.i c.steal_from.new.ticket c.index_mut-ticket.result.now (c.in-None.ensures.found ∙ ap stolen c.index_mut-ticket.ensures.value))) c.requires.none

pub returns-in-None-clause-tickets : goal.returns-in-None-clause-tickets
returns-in-None-clause-tickets g c =
    let i = c.args.i in let th = c.index-thief.result.now in let ticket = c.index_mut-ticket.result.now in let tickets = c.args.seat.now.tickets.items in let thieves = c.args.thieves.now.items in let ds = map (λ t. stealer_deque t) thieves in
    let of-all : length ds ≡ length thieves = length-map thieves (λ t. stealer_deque t) in
    let many : length tickets ≡ length ds = c.requires.tickets.1 in
    let place : i < length thieves = c.requires.place in
    let lt : i < length tickets = omega arith in
    let of-it : get_or ds i (stealer_deque th) ≡ stealer_deque th = get_or-map (λ t. stealer_deque t) thieves i th (stealer_deque th) place ∙ ap (λ t. stealer_deque t) (sym c.index-thief.ensures) in
    (ticket-set ds tickets i c.steal_from.new.ticket (stealer_deque th) c.requires.tickets.0 lt (subst (λ d. IsTicketFor d c.steal_from.new.ticket) (sym of-it) c.in-None.ensures.ticket), length-set tickets i c.steal_from.new.ticket ∙ many)

pub returns-in_ok-finish-in-Some-clause-goes : goal.returns-in_ok-finish-in-Some-clause-goes
returns-in_ok-finish-in-Some-clause-goes g c =
    let i = c.args.i in let th = c.index-thief.result.now in let ticket = c.index_mut-ticket.result.now in let tickets = c.args.seat.now.tickets.items in let thieves = c.args.thieves.now.items in let ds = map (λ t. stealer_deque t) thieves in
    let of-all : length ds ≡ length thieves = length-map thieves (λ t. stealer_deque t) in
    let many : length tickets ≡ length ds = c.requires.tickets.1 in
    let place : i < length thieves = c.requires.place in
    let lt : i < length tickets = omega arith in
    let of-it : get_or ds i (stealer_deque th) ≡ stealer_deque th = get_or-map (λ t. stealer_deque t) thieves i th (stealer_deque th) place ∙ ap (λ t. stealer_deque t) (sym c.index-thief.ensures) in
    let e = c.deref_mut-desk.ensures.value in let p = c.in-Some.p in let after = c.steal_from.new.ticket in let own : List (Packet g.row.T.Denot) = takings (desk_of c.args.seat.now).own in
    let took : stolen after ≡ stolen (get_or tickets i ticket) ++ p ∷ [] = c.in-Some.ensures.found.1 ∙ ap (λ t. stolen t ++ p ∷ []) c.index_mut-ticket.ensures.value in
    let one : IsPermutation (stolen (get_or tickets i ticket) ++ p ∷ []) (stolen after ++ []) = subst (IsPermutation (stolen (get_or tickets i ticket) ++ p ∷ [])) (sym took ∙ sym (append-nil (stolen after))) (IsPermutation-refl _) in
    let all = flat-set stolen tickets i after ticket (p ∷ []) [] lt one in
    let stole : IsPermutation (flat_map stolen tickets ++ p ∷ []) (flat_map stolen (set tickets i after)) = subst (IsPermutation (flat_map stolen tickets ++ p ∷ [])) (append-nil (flat_map stolen (set tickets i after))) all in
    let got : IsPermutation (got_by c.args.seat.now ++ p ∷ []) (own ++ flat_map stolen (set tickets i after)) =
    subst (λ l. IsPermutation l (own ++ flat_map stolen (set tickets i after))) (sym (append_assoc own (flat_map stolen tickets) (p ∷ []))) (IsPermutation-append_right own _ _ stole) in
    let same : takings c.deref_mut-desk.result.now.own ≡ own = ap (λ (d : Desk g.row.T.Denot g.row.W.Denot g.row.K.Denot). takings d.own) e in
    goes-stolen g.W.PacketWorker.home g.W.PacketWorker.takes g.W.PacketWorker.steps c.args.b c.args.seat.now _ _ p (ap (λ (d : Desk g.row.T.Denot g.row.W.Denot g.row.K.Denot). d.worker) e) (ap (λ (d : Desk g.row.T.Denot g.row.W.Denot g.row.K.Denot). d.own) e) (ap (λ (d : Desk g.row.T.Denot g.row.W.Denot g.row.K.Denot). d.later) e)
    (c.in_ok-push-in-Some.ensures.items ∙ ap (λ (d : Desk g.row.T.Denot g.row.W.Denot g.row.K.Denot). d.backlog.items ++ p ∷ []) e) (subst (λ l. IsPermutation (got_by c.args.seat.now ++ p ∷ []) (l ++ flat_map stolen (set tickets i after))) (sym same) got) c.in_ok-finish-in-Some.ensures.goes

pub returns-in_ok-finish-in-Some-clause-tickets : goal.returns-in_ok-finish-in-Some-clause-tickets
returns-in_ok-finish-in-Some-clause-tickets g c =
    let i = c.args.i in let th = c.index-thief.result.now in let ticket = c.index_mut-ticket.result.now in let tickets = c.args.seat.now.tickets.items in let thieves = c.args.thieves.now.items in let ds = map (λ t. stealer_deque t) thieves in
    let of-all : length ds ≡ length thieves = length-map thieves (λ t. stealer_deque t) in
    let many : length tickets ≡ length ds = c.requires.tickets.1 in
    let place : i < length thieves = c.requires.place in
    let lt : i < length tickets = omega arith in
    let of-it : get_or ds i (stealer_deque th) ≡ stealer_deque th = get_or-map (λ t. stealer_deque t) thieves i th (stealer_deque th) place ∙ ap (λ t. stealer_deque t) (sym c.index-thief.ensures) in
    subst (λ ts. AreTickets ds ts.items × (length ts.items ≡ length ds)) (sym c.in_ok-finish-in-Some.ensures.tickets)
    (ticket-set ds tickets i c.steal_from.new.ticket (stealer_deque th) c.requires.tickets.0 lt (subst (λ d. IsTicketFor d c.steal_from.new.ticket) (sym of-it) c.in-Some.ensures.ticket), length-set tickets i c.steal_from.new.ticket ∙ many)
