use Rattle.std.proofs.Common.{rules, ◌≡◌, ◌≤◌, ◌<◌, ◌-◌, List, All, IfOk, map, length, refl, sym, ap, ◌∙◌, subst, arith}
use Rattle.std.specs.List.{AllZip}
use Rattle.std.proofs.lemmas.List.{length-map}
use Rattle.std.proofs.lemmas.List.Elements.{All-get_or, All-weaker}
use Rattle.std.proofs.lemmas.List.Sorted.{All-permutation}
use Rattle.work_packets.specs.declared.share.Share.{Share}
use Rattle.work_packets.specs.Packets.{HasItems}
use Rattle.work_packets.proofs.Ends.{zipped}
use Rattle.crossbeam_deque.specs.Handles.{stealer_deque}
use Rattle.steal_pool.specs.declared.rule.TheConstants.{PARTS}
use Rattle.steal_pool.specs.declared.seats.Seat.{Seat}
use Rattle.steal_pool.specs.Seats.{account, desk_of, deques, HasBegun, HasTickets, HasParts, GoesOnTo, IsServable}
use Rattle.steal_pool.proofs.Joined.{all-fit, all-parts, all-servable, zip-ok, zip-left, zip-right, deques-stay, parts-stay, as-many}
use Rattle.steal_pool.proofs.Places.{same-parts, same-count}
use Rattle.steal_pool.proofs.Totals.{reach-as-many}
use Rattle.steal_pool.proofs.Ended.{ended}
use Rattle.steal_pool.proofs.steal.steal_among.Goals as goal

pub open_seats-requires-clause-bucket : goal.open_seats-requires-clause-bucket
open_seats-requires-clause-bucket g c κs within = All-permutation (λ p. p.bucket ≡ c.args.b) _ _ c.in_ok-shares.ensures.packets c.requires.bucket

pub open_seats-requires-clause-fit : goal.open_seats-requires-clause-fit
open_seats-requires-clause-fit g c κs within =
    All-permutation g.K.Fits.fits _ _ c.in_ok-shares.ensures.packets
    (all-fit g.K.Fits.fits c.args.b g.W.PacketWorker.takes c.requires.takes.0 c.requires.takes.3 c.args.first.items c.requires.bucket c.requires.items c.requires.takes.2)

pub map_in_threads-requires-after_bounds : goal.map_in_threads-requires-after_bounds
map_in_threads-requires-after_bounds g c κs within =
    let home = g.W.PacketWorker.home in let takes = g.W.PacketWorker.takes in let steps = g.W.PacketWorker.steps in let awaits = g.W.PacketWorker.awaits in let b = c.args.b in let fits = g.K.Fits.fits in let h = c.requires.takes.0 in
    let shares : List (Share g.row.T.Denot g.row.W.Denot) = c.in_ok-shares.shares.items in let opened : List (Seat g.row.T.Denot g.row.W.Denot g.row.K.Denot) = c.in_ok-opened.opened.0.items in let ds = map (λ t. stealer_deque t) c.in_ok-opened.opened.1.items in
    let o = c.in_ok-opened.ensures in let k = c.in_ok-cut_tickets.ensures in let seats : List (Seat g.row.T.Denot g.row.W.Denot g.row.K.Denot) = c.cut_tickets.new.seats.items in
    let begun : AllZip (HasBegun home takes steps b) shares (map account seats) = subst (AllZip (HasBegun home takes steps b) shares) (sym k.account) o.begun in
    let own : All (λ w. home w ≡ h) (map (λ s. s.worker) shares) = subst (All (λ w. home w ≡ h)) (sym c.in_ok-shares.ensures.workers) c.requires.takes.1 in
    let fit : All (λ s. All fits (desk_of s).backlog.items) seats = all-parts account (λ a. All fits a.backlog) seats opened k.account o.fit in
    let tickets : All (HasTickets ds) seats = subst (λ l. All (HasTickets l) seats) (sym o.thieves) k.tickets in
    let each : All (IsServable fits b home takes awaits ds) seats = all-servable fits b home takes awaits steps ds h (PARTS - length opened) c.requires.takes.3 c.requires.awaits shares seats begun own k.parts fit tickets in
    λ i x lt is. ((search rules, search rules, search rules, subst (IsServable fits b home takes awaits ds) (sym is) (All-get_or (IsServable fits b home takes awaits ds) seats i x lt each)), (search rules, search rules, search rules, search rules, search rules))

pub take_tickets_back-requires-clause-tickets : goal.take_tickets_back-requires-clause-tickets
take_tickets_back-requires-clause-tickets g c =
    let home = g.W.PacketWorker.home in let takes = g.W.PacketWorker.takes in let steps = g.W.PacketWorker.steps in let awaits = g.W.PacketWorker.awaits in let b = c.args.b in let fits = g.K.Fits.fits in let h = c.requires.takes.0 in
    let shares : List (Share g.row.T.Denot g.row.W.Denot) = c.in_ok-shares.shares.items in let opened : List (Seat g.row.T.Denot g.row.W.Denot g.row.K.Denot) = c.in_ok-opened.opened.0.items in let ds = map (λ t. stealer_deque t) c.in_ok-opened.opened.1.items in
    let o = c.in_ok-opened.ensures in let k = c.in_ok-cut_tickets.ensures in let seats : List (Seat g.row.T.Denot g.row.W.Denot g.row.K.Denot) = c.cut_tickets.new.seats.items in
    let begun : AllZip (HasBegun home takes steps b) shares (map account seats) = subst (AllZip (HasBegun home takes steps b) shares) (sym k.account) o.begun in
    let results = c.in_ok-results.results.items in let served : List (Seat g.row.T.Denot g.row.W.Denot g.row.K.Denot) = c.in_ok-served.served.items in
    let n : length results ≡ length seats = search (rules, c.in_ok-results.ensures.len) in
    let z = zipped (λ s r. IfOk r (λ t. GoesOnTo home takes steps b s t × HasTickets ds t)) seats results n (λ i d lt. let j = c.in_ok-results.ensures.each i d lt in (j.1.job, j.1.job_is, j.1.call.met)) in
    let zz = zip-ok (λ s t. GoesOnTo home takes steps b s t × HasTickets ds t) seats served (subst (AllZip (λ s r. IfOk r (λ t. GoesOnTo home takes steps b s t × HasTickets ds t)) seats) c.in_ok-served.ensures z) in
    let goes = zip-left (GoesOnTo home takes steps b) (HasTickets ds) seats served zz in let tickets = zip-right (GoesOnTo home takes steps b) (HasTickets ds) seats served zz in
    let same : ds ≡ deques served = o.thieves ∙ sym (same-parts account (λ a. a.deque) seats opened k.account) ∙ sym (deques-stay home takes steps b seats served goes) in
    subst (λ l. All (HasTickets l) served) same tickets

pub take_tickets_back-requires-clause-parts : goal.take_tickets_back-requires-clause-parts
take_tickets_back-requires-clause-parts g c =
    let home = g.W.PacketWorker.home in let takes = g.W.PacketWorker.takes in let steps = g.W.PacketWorker.steps in let awaits = g.W.PacketWorker.awaits in let b = c.args.b in let fits = g.K.Fits.fits in let h = c.requires.takes.0 in
    let shares : List (Share g.row.T.Denot g.row.W.Denot) = c.in_ok-shares.shares.items in let opened : List (Seat g.row.T.Denot g.row.W.Denot g.row.K.Denot) = c.in_ok-opened.opened.0.items in let ds = map (λ t. stealer_deque t) c.in_ok-opened.opened.1.items in
    let o = c.in_ok-opened.ensures in let k = c.in_ok-cut_tickets.ensures in let seats : List (Seat g.row.T.Denot g.row.W.Denot g.row.K.Denot) = c.cut_tickets.new.seats.items in
    let begun : AllZip (HasBegun home takes steps b) shares (map account seats) = subst (AllZip (HasBegun home takes steps b) shares) (sym k.account) o.begun in
    let results = c.in_ok-results.results.items in let served : List (Seat g.row.T.Denot g.row.W.Denot g.row.K.Denot) = c.in_ok-served.served.items in
    let n : length results ≡ length seats = search (rules, c.in_ok-results.ensures.len) in
    let z = zipped (λ s r. IfOk r (λ t. GoesOnTo home takes steps b s t × HasTickets ds t)) seats results n (λ i d lt. let j = c.in_ok-results.ensures.each i d lt in (j.1.job, j.1.job_is, j.1.call.met)) in
    let zz = zip-ok (λ s t. GoesOnTo home takes steps b s t × HasTickets ds t) seats served (subst (AllZip (λ s r. IfOk r (λ t. GoesOnTo home takes steps b s t × HasTickets ds t)) seats) c.in_ok-served.ensures z) in
    let goes = zip-left (GoesOnTo home takes steps b) (HasTickets ds) seats served zz in let tickets = zip-right (GoesOnTo home takes steps b) (HasTickets ds) seats served zz in
    let many : length served ≡ length seats = as-many home takes steps b seats served goes in
    let as-opened : length seats ≡ length opened = same-count account seats opened k.account in
    subst (λ m. All (HasParts (PARTS - m)) served) (sym (many ∙ as-opened)) (parts-stay home takes steps b (PARTS - length opened) seats served goes k.parts)

pub take_tickets_back-requires-clause-few : goal.take_tickets_back-requires-clause-few
take_tickets_back-requires-clause-few g c =
    let home = g.W.PacketWorker.home in let takes = g.W.PacketWorker.takes in let steps = g.W.PacketWorker.steps in let awaits = g.W.PacketWorker.awaits in let b = c.args.b in let fits = g.K.Fits.fits in let h = c.requires.takes.0 in
    let shares : List (Share g.row.T.Denot g.row.W.Denot) = c.in_ok-shares.shares.items in let opened : List (Seat g.row.T.Denot g.row.W.Denot g.row.K.Denot) = c.in_ok-opened.opened.0.items in let ds = map (λ t. stealer_deque t) c.in_ok-opened.opened.1.items in
    let o = c.in_ok-opened.ensures in let k = c.in_ok-cut_tickets.ensures in let seats : List (Seat g.row.T.Denot g.row.W.Denot g.row.K.Denot) = c.cut_tickets.new.seats.items in
    let begun : AllZip (HasBegun home takes steps b) shares (map account seats) = subst (AllZip (HasBegun home takes steps b) shares) (sym k.account) o.begun in
    let results = c.in_ok-results.results.items in let served : List (Seat g.row.T.Denot g.row.W.Denot g.row.K.Denot) = c.in_ok-served.served.items in
    let n : length results ≡ length seats = search (rules, c.in_ok-results.ensures.len) in
    let z = zipped (λ s r. IfOk r (λ t. GoesOnTo home takes steps b s t × HasTickets ds t)) seats results n (λ i d lt. let j = c.in_ok-results.ensures.each i d lt in (j.1.job, j.1.job_is, j.1.call.met)) in
    let zz = zip-ok (λ s t. GoesOnTo home takes steps b s t × HasTickets ds t) seats served (subst (AllZip (λ s r. IfOk r (λ t. GoesOnTo home takes steps b s t × HasTickets ds t)) seats) c.in_ok-served.ensures z) in
    let goes = zip-left (GoesOnTo home takes steps b) (HasTickets ds) seats served zz in let tickets = zip-right (GoesOnTo home takes steps b) (HasTickets ds) seats served zz in
    let many : length served ≡ length seats = as-many home takes steps b seats served goes in
    let as-opened : length seats ≡ length opened = same-count account seats opened k.account in
    let shared : length opened ≡ length shares = o.len in
    let of-workers : length shares ≡ length c.args.workers.items = sym (length-map shares (λ s. s.worker)) ∙ ap length c.in_ok-shares.ensures.workers in
    let few : length c.args.workers.items ≤ 16 = c.requires.few in
    let parts : PARTS ≡ 64 = refl in
    omega arith

pub cut_tickets-requires-clause-few : goal.cut_tickets-requires-clause-few
cut_tickets-requires-clause-few g c =
    let shares : List (Share g.row.T.Denot g.row.W.Denot) = c.in_ok-shares.shares.items in
    let shared : length c.in_ok-opened.opened.0.items ≡ length shares = c.in_ok-opened.ensures.len in
    let of-workers : length shares ≡ length c.args.workers.items = sym (length-map shares (λ s. s.worker)) ∙ ap length c.in_ok-shares.ensures.workers in
    let few : length c.args.workers.items ≤ 16 = c.requires.few in
    let parts : PARTS ≡ 64 = refl in
    omega arith

pub run_rest-requires-clause-some : goal.run_rest-requires-clause-some
run_rest-requires-clause-some g c κs within =
    let home = g.W.PacketWorker.home in let takes = g.W.PacketWorker.takes in let steps = g.W.PacketWorker.steps in let awaits = g.W.PacketWorker.awaits in let b = c.args.b in let fits = g.K.Fits.fits in let h = c.requires.takes.0 in
    let shares : List (Share g.row.T.Denot g.row.W.Denot) = c.in_ok-shares.shares.items in let opened : List (Seat g.row.T.Denot g.row.W.Denot g.row.K.Denot) = c.in_ok-opened.opened.0.items in let ds = map (λ t. stealer_deque t) c.in_ok-opened.opened.1.items in
    let o = c.in_ok-opened.ensures in let k = c.in_ok-cut_tickets.ensures in let seats : List (Seat g.row.T.Denot g.row.W.Denot g.row.K.Denot) = c.cut_tickets.new.seats.items in
    let begun : AllZip (HasBegun home takes steps b) shares (map account seats) = subst (AllZip (HasBegun home takes steps b) shares) (sym k.account) o.begun in
    let results = c.in_ok-results.results.items in let served : List (Seat g.row.T.Denot g.row.W.Denot g.row.K.Denot) = c.in_ok-served.served.items in
    let n : length results ≡ length seats = search (rules, c.in_ok-results.ensures.len) in
    let z = zipped (λ s r. IfOk r (λ t. GoesOnTo home takes steps b s t × HasTickets ds t)) seats results n (λ i d lt. let j = c.in_ok-results.ensures.each i d lt in (j.1.job, j.1.job_is, j.1.call.met)) in
    let zz = zip-ok (λ s t. GoesOnTo home takes steps b s t × HasTickets ds t) seats served (subst (AllZip (λ s r. IfOk r (λ t. GoesOnTo home takes steps b s t × HasTickets ds t)) seats) c.in_ok-served.ensures z) in
    let goes = zip-left (GoesOnTo home takes steps b) (HasTickets ds) seats served zz in let tickets = zip-right (GoesOnTo home takes steps b) (HasTickets ds) seats served zz in
    let emptied : List (Seat g.row.T.Denot g.row.W.Denot g.row.K.Denot) = c.take_tickets_back.new.seats.items in let r = c.in_ok-gathered.ensures in let back = c.take_tickets_back.ensures in
    let end = ended home takes steps b c.args.workers.items c.args.first.items shares seats served emptied c.in_ok-gathered.gathered.workers.items c.in_ok-gathered.gathered.rest.items c.in_ok-gathered.gathered.later.items c.in_ok-shares.ensures.workers c.in_ok-shares.ensures.packets
    begun k.none goes back.account back.taken r.workers r.later r.rest in
    let same : length c.in_ok-gathered.gathered.workers.items ≡ length c.args.workers.items = reach-as-many steps b _ _ _ _ _ _ end.runs in
    let several : 1 < length c.args.workers.items = c.requires.several in
    omega arith

pub run_rest-requires-clause-bucket : goal.run_rest-requires-clause-bucket
run_rest-requires-clause-bucket g c κs within = All-weaker g.K.Fits.fits (λ p. p.bucket ≡ c.args.b) (λ p f. c.requires.takes.3.in_bucket p f) _ c.in_ok-gathered.ensures.fit

pub run_rest-requires-clause-items : goal.run_rest-requires-clause-items
run_rest-requires-clause-items g c κs within =
    let home = g.W.PacketWorker.home in let takes = g.W.PacketWorker.takes in let steps = g.W.PacketWorker.steps in let awaits = g.W.PacketWorker.awaits in let b = c.args.b in let fits = g.K.Fits.fits in let h = c.requires.takes.0 in
    let shares : List (Share g.row.T.Denot g.row.W.Denot) = c.in_ok-shares.shares.items in let opened : List (Seat g.row.T.Denot g.row.W.Denot g.row.K.Denot) = c.in_ok-opened.opened.0.items in let ds = map (λ t. stealer_deque t) c.in_ok-opened.opened.1.items in
    let o = c.in_ok-opened.ensures in let k = c.in_ok-cut_tickets.ensures in let seats : List (Seat g.row.T.Denot g.row.W.Denot g.row.K.Denot) = c.cut_tickets.new.seats.items in
    let begun : AllZip (HasBegun home takes steps b) shares (map account seats) = subst (AllZip (HasBegun home takes steps b) shares) (sym k.account) o.begun in
    let results = c.in_ok-results.results.items in let served : List (Seat g.row.T.Denot g.row.W.Denot g.row.K.Denot) = c.in_ok-served.served.items in
    let n : length results ≡ length seats = search (rules, c.in_ok-results.ensures.len) in
    let z = zipped (λ s r. IfOk r (λ t. GoesOnTo home takes steps b s t × HasTickets ds t)) seats results n (λ i d lt. let j = c.in_ok-results.ensures.each i d lt in (j.1.job, j.1.job_is, j.1.call.met)) in
    let zz = zip-ok (λ s t. GoesOnTo home takes steps b s t × HasTickets ds t) seats served (subst (AllZip (λ s r. IfOk r (λ t. GoesOnTo home takes steps b s t × HasTickets ds t)) seats) c.in_ok-served.ensures z) in
    let goes = zip-left (GoesOnTo home takes steps b) (HasTickets ds) seats served zz in let tickets = zip-right (GoesOnTo home takes steps b) (HasTickets ds) seats served zz in
    let emptied : List (Seat g.row.T.Denot g.row.W.Denot g.row.K.Denot) = c.take_tickets_back.new.seats.items in let r = c.in_ok-gathered.ensures in let back = c.take_tickets_back.ensures in
    let end = ended home takes steps b c.args.workers.items c.args.first.items shares seats served emptied c.in_ok-gathered.gathered.workers.items c.in_ok-gathered.gathered.rest.items c.in_ok-gathered.gathered.later.items c.in_ok-shares.ensures.workers c.in_ok-shares.ensures.packets
    begun k.none goes back.account back.taken r.workers r.later r.rest in
    (All-weaker fits HasItems (λ p f. c.requires.takes.3.sized p f) _ r.fit, end.sized)

pub run_rest-requires-clause-takes : goal.run_rest-requires-clause-takes
run_rest-requires-clause-takes g c κs within =
    let home = g.W.PacketWorker.home in let takes = g.W.PacketWorker.takes in let steps = g.W.PacketWorker.steps in let awaits = g.W.PacketWorker.awaits in let b = c.args.b in let fits = g.K.Fits.fits in let h = c.requires.takes.0 in
    let shares : List (Share g.row.T.Denot g.row.W.Denot) = c.in_ok-shares.shares.items in let opened : List (Seat g.row.T.Denot g.row.W.Denot g.row.K.Denot) = c.in_ok-opened.opened.0.items in let ds = map (λ t. stealer_deque t) c.in_ok-opened.opened.1.items in
    let o = c.in_ok-opened.ensures in let k = c.in_ok-cut_tickets.ensures in let seats : List (Seat g.row.T.Denot g.row.W.Denot g.row.K.Denot) = c.cut_tickets.new.seats.items in
    let begun : AllZip (HasBegun home takes steps b) shares (map account seats) = subst (AllZip (HasBegun home takes steps b) shares) (sym k.account) o.begun in
    let results = c.in_ok-results.results.items in let served : List (Seat g.row.T.Denot g.row.W.Denot g.row.K.Denot) = c.in_ok-served.served.items in
    let n : length results ≡ length seats = search (rules, c.in_ok-results.ensures.len) in
    let z = zipped (λ s r. IfOk r (λ t. GoesOnTo home takes steps b s t × HasTickets ds t)) seats results n (λ i d lt. let j = c.in_ok-results.ensures.each i d lt in (j.1.job, j.1.job_is, j.1.call.met)) in
    let zz = zip-ok (λ s t. GoesOnTo home takes steps b s t × HasTickets ds t) seats served (subst (AllZip (λ s r. IfOk r (λ t. GoesOnTo home takes steps b s t × HasTickets ds t)) seats) c.in_ok-served.ensures z) in
    let goes = zip-left (GoesOnTo home takes steps b) (HasTickets ds) seats served zz in let tickets = zip-right (GoesOnTo home takes steps b) (HasTickets ds) seats served zz in
    let emptied : List (Seat g.row.T.Denot g.row.W.Denot g.row.K.Denot) = c.take_tickets_back.new.seats.items in let r = c.in_ok-gathered.ensures in let back = c.take_tickets_back.ensures in
    let end = ended home takes steps b c.args.workers.items c.args.first.items shares seats served emptied c.in_ok-gathered.gathered.workers.items c.in_ok-gathered.gathered.rest.items c.in_ok-gathered.gathered.later.items c.in_ok-shares.ensures.workers c.in_ok-shares.ensures.packets
    begun k.none goes back.account back.taken r.workers r.later r.rest in
    (h, end.homes h c.requires.takes.1, All-weaker fits (takes h) (λ p f. c.requires.takes.3.taken p f) _ r.fit, end.taken h c.requires.takes.1)

pub returns-clause-home : goal.returns-clause-home
returns-clause-home g c =
    let home = g.W.PacketWorker.home in let takes = g.W.PacketWorker.takes in let steps = g.W.PacketWorker.steps in let awaits = g.W.PacketWorker.awaits in let b = c.args.b in let fits = g.K.Fits.fits in let h = c.requires.takes.0 in
    let shares : List (Share g.row.T.Denot g.row.W.Denot) = c.in_ok-shares.shares.items in let opened : List (Seat g.row.T.Denot g.row.W.Denot g.row.K.Denot) = c.in_ok-opened.opened.0.items in let ds = map (λ t. stealer_deque t) c.in_ok-opened.opened.1.items in
    let o = c.in_ok-opened.ensures in let k = c.in_ok-cut_tickets.ensures in let seats : List (Seat g.row.T.Denot g.row.W.Denot g.row.K.Denot) = c.cut_tickets.new.seats.items in
    let begun : AllZip (HasBegun home takes steps b) shares (map account seats) = subst (AllZip (HasBegun home takes steps b) shares) (sym k.account) o.begun in
    let results = c.in_ok-results.results.items in let served : List (Seat g.row.T.Denot g.row.W.Denot g.row.K.Denot) = c.in_ok-served.served.items in
    let n : length results ≡ length seats = search (rules, c.in_ok-results.ensures.len) in
    let z = zipped (λ s r. IfOk r (λ t. GoesOnTo home takes steps b s t × HasTickets ds t)) seats results n (λ i d lt. let j = c.in_ok-results.ensures.each i d lt in (j.1.job, j.1.job_is, j.1.call.met)) in
    let zz = zip-ok (λ s t. GoesOnTo home takes steps b s t × HasTickets ds t) seats served (subst (AllZip (λ s r. IfOk r (λ t. GoesOnTo home takes steps b s t × HasTickets ds t)) seats) c.in_ok-served.ensures z) in
    let goes = zip-left (GoesOnTo home takes steps b) (HasTickets ds) seats served zz in let tickets = zip-right (GoesOnTo home takes steps b) (HasTickets ds) seats served zz in
    let emptied : List (Seat g.row.T.Denot g.row.W.Denot g.row.K.Denot) = c.take_tickets_back.new.seats.items in let r = c.in_ok-gathered.ensures in let back = c.take_tickets_back.ensures in
    let end = ended home takes steps b c.args.workers.items c.args.first.items shares seats served emptied c.in_ok-gathered.gathered.workers.items c.in_ok-gathered.gathered.rest.items c.in_ok-gathered.gathered.later.items c.in_ok-shares.ensures.workers c.in_ok-shares.ensures.packets
    begun k.none goes back.account back.taken r.workers r.later r.rest in
    λ h own. c.in_ok-ended.ensures.home h (end.homes h own)

pub returns-clause-takes : goal.returns-clause-takes
returns-clause-takes g c =
    let home = g.W.PacketWorker.home in let takes = g.W.PacketWorker.takes in let steps = g.W.PacketWorker.steps in let awaits = g.W.PacketWorker.awaits in let b = c.args.b in let fits = g.K.Fits.fits in let h = c.requires.takes.0 in
    let shares : List (Share g.row.T.Denot g.row.W.Denot) = c.in_ok-shares.shares.items in let opened : List (Seat g.row.T.Denot g.row.W.Denot g.row.K.Denot) = c.in_ok-opened.opened.0.items in let ds = map (λ t. stealer_deque t) c.in_ok-opened.opened.1.items in
    let o = c.in_ok-opened.ensures in let k = c.in_ok-cut_tickets.ensures in let seats : List (Seat g.row.T.Denot g.row.W.Denot g.row.K.Denot) = c.cut_tickets.new.seats.items in
    let begun : AllZip (HasBegun home takes steps b) shares (map account seats) = subst (AllZip (HasBegun home takes steps b) shares) (sym k.account) o.begun in
    let results = c.in_ok-results.results.items in let served : List (Seat g.row.T.Denot g.row.W.Denot g.row.K.Denot) = c.in_ok-served.served.items in
    let n : length results ≡ length seats = search (rules, c.in_ok-results.ensures.len) in
    let z = zipped (λ s r. IfOk r (λ t. GoesOnTo home takes steps b s t × HasTickets ds t)) seats results n (λ i d lt. let j = c.in_ok-results.ensures.each i d lt in (j.1.job, j.1.job_is, j.1.call.met)) in
    let zz = zip-ok (λ s t. GoesOnTo home takes steps b s t × HasTickets ds t) seats served (subst (AllZip (λ s r. IfOk r (λ t. GoesOnTo home takes steps b s t × HasTickets ds t)) seats) c.in_ok-served.ensures z) in
    let goes = zip-left (GoesOnTo home takes steps b) (HasTickets ds) seats served zz in let tickets = zip-right (GoesOnTo home takes steps b) (HasTickets ds) seats served zz in
    let emptied : List (Seat g.row.T.Denot g.row.W.Denot g.row.K.Denot) = c.take_tickets_back.new.seats.items in let r = c.in_ok-gathered.ensures in let back = c.take_tickets_back.ensures in
    let end = ended home takes steps b c.args.workers.items c.args.first.items shares seats served emptied c.in_ok-gathered.gathered.workers.items c.in_ok-gathered.gathered.rest.items c.in_ok-gathered.gathered.later.items c.in_ok-shares.ensures.workers c.in_ok-shares.ensures.packets
    begun k.none goes back.account back.taken r.workers r.later r.rest in
    λ h own. c.in_ok-ended.ensures.takes h (end.homes h own)

pub returns-clause-once : goal.returns-clause-once
returns-clause-once g c =
    let home = g.W.PacketWorker.home in let takes = g.W.PacketWorker.takes in let steps = g.W.PacketWorker.steps in let awaits = g.W.PacketWorker.awaits in let b = c.args.b in let fits = g.K.Fits.fits in let h = c.requires.takes.0 in
    let shares : List (Share g.row.T.Denot g.row.W.Denot) = c.in_ok-shares.shares.items in let opened : List (Seat g.row.T.Denot g.row.W.Denot g.row.K.Denot) = c.in_ok-opened.opened.0.items in let ds = map (λ t. stealer_deque t) c.in_ok-opened.opened.1.items in
    let o = c.in_ok-opened.ensures in let k = c.in_ok-cut_tickets.ensures in let seats : List (Seat g.row.T.Denot g.row.W.Denot g.row.K.Denot) = c.cut_tickets.new.seats.items in
    let begun : AllZip (HasBegun home takes steps b) shares (map account seats) = subst (AllZip (HasBegun home takes steps b) shares) (sym k.account) o.begun in
    let results = c.in_ok-results.results.items in let served : List (Seat g.row.T.Denot g.row.W.Denot g.row.K.Denot) = c.in_ok-served.served.items in
    let n : length results ≡ length seats = search (rules, c.in_ok-results.ensures.len) in
    let z = zipped (λ s r. IfOk r (λ t. GoesOnTo home takes steps b s t × HasTickets ds t)) seats results n (λ i d lt. let j = c.in_ok-results.ensures.each i d lt in (j.1.job, j.1.job_is, j.1.call.met)) in
    let zz = zip-ok (λ s t. GoesOnTo home takes steps b s t × HasTickets ds t) seats served (subst (AllZip (λ s r. IfOk r (λ t. GoesOnTo home takes steps b s t × HasTickets ds t)) seats) c.in_ok-served.ensures z) in
    let goes = zip-left (GoesOnTo home takes steps b) (HasTickets ds) seats served zz in let tickets = zip-right (GoesOnTo home takes steps b) (HasTickets ds) seats served zz in
    let emptied : List (Seat g.row.T.Denot g.row.W.Denot g.row.K.Denot) = c.take_tickets_back.new.seats.items in let r = c.in_ok-gathered.ensures in let back = c.take_tickets_back.ensures in
    let end = ended home takes steps b c.args.workers.items c.args.first.items shares seats served emptied c.in_ok-gathered.gathered.workers.items c.in_ok-gathered.gathered.rest.items c.in_ok-gathered.gathered.later.items c.in_ok-shares.ensures.workers c.in_ok-shares.ensures.packets
    begun k.none goes back.account back.taken r.workers r.later r.rest in
    c.in_ok-ended.ensures.once c.args.workers.items c.args.first.items end.logs end.runs

pub returns-clause-awaits : goal.returns-clause-awaits
returns-clause-awaits g c = λ start w one h. absurd (let several : 1 < length c.args.workers.items = c.requires.several in let e = ap length one in omega arith)
