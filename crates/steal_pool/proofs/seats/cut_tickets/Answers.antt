use Rattle.std.proofs.Common.{rules, ◌≡◌, ◌<◌, ◌≤◌, ◌+◌, ◌-◌, [], ◌++◌, All, map, length, set, get_or, refl, sym, ap, ◌∙◌, subst, arith}
use Rattle.std.specs.List.{flat_map}
use Rattle.std.proofs.Math.Seq.{map-set_same}
use Rattle.std.proofs.lemmas.List.{length-append, length-map, nil_from_length, map-set}
use Rattle.std.proofs.lemmas.List.Elements.{All-set, All-get_or}
use Rattle.crossbeam_deque.specs.Handles.{worker_deque}
use Rattle.steal_pool.specs.declared.rule.TheConstants.{PARTS}
use Rattle.steal_pool.specs.declared.seats.Seat.{Seat}
use Rattle.steal_pool.specs.Ends.{AreTickets, stolen, takings}
use Rattle.steal_pool.specs.Seats.{account, desk_of, deques, got_by, HasParts}
use Rattle.steal_pool.proofs.Places.{AreUpTo, none-yet, place-done, all-done, same-count, same-parts}
use Rattle.steal_pool.proofs.Joined.{all-parts, of-map}
use Rattle.steal_pool.proofs.seats.cut_tickets.Goals as goal

pub loop-i-init : goal.loop-i-init
loop-i-init g c = record {
  parts = c.requires.parts;
  account = refl;
  none = c.requires.none;
  tickets = none-yet (λ ts. AreTickets (deques c.args.seats.now.items) ts.items × (length ts.items ≡ length c.args.seats.now.items)) (λ ts. Unit {0}) (map (λ (s : Seat g.row.T.Denot g.row.W.Denot g.row.K.Denot). s.tickets) c.args.seats.now.items) (λ k d lt. tt);
}

pub cut_row-requires : goal.cut_row-requires
cut_row-requires g c =
    let below : c.loop-i.i < length c.args.seats.now.items = search rules in
    let few : length c.args.seats.now.items < PARTS = c.requires.few in
    let e : PARTS - c.loop-i.i ≡ (PARTS - (c.loop-i.i + 1)) + 1 = omega arith in
    (PARTS - (c.loop-i.i + 1), omega arith, subst (λ n. All (HasParts n) c.loop-i.seats.items) e c.loop-i.invariant.parts)

pub index_mut-seat-requires : goal.index_mut-seat-requires
index_mut-seat-requires g c =
    let below : c.loop-i.i < length c.args.seats.now.items = search rules in
    let many : length c.cut_row.new.seats.items ≡ length c.args.seats.now.items = same-count account c.cut_row.new.seats.items c.args.seats.now.items (c.in_ok-row.ensures.account ∙ c.loop-i.invariant.account) in
    omega arith

pub loop-i-preserved : goal.loop-i-preserved
loop-i-preserved g c =
    let i = c.loop-i.invariant in let k = c.loop-i.i in let start = c.args.seats.now.items in let cut = c.cut_row.new.seats.items in let e = c.in_ok-row.ensures in
    let below : k < length start = search rules in
    let few : length start < PARTS = c.requires.few in
    let same : map account cut ≡ map account start = e.account ∙ i.account in
    let many : length cut ≡ length start = same-count account cut start same in
    let lt : k < length cut = omega arith in
    let s = c.index_mut-seat.result.now in let is : s ≡ get_or cut k s = c.index_mut-seat.ensures.value in
    let new : Seat g.row.T.Denot g.row.W.Denot g.row.K.Denot = record { number = s.number; desk = s.desk; tickets = c.in_ok-row.row } in
    let one : PARTS - k ≡ (PARTS - (k + 1)) + 1 = omega arith in
    let parts : All (HasParts (PARTS - (k + 1))) cut = e.parts (PARTS - (k + 1)) (omega arith) (subst (λ n. All (HasParts n) c.loop-i.seats.items) one i.parts) in
    let none : All (λ s. got_by s ≡ []) cut = all-parts (λ s. got_by s) (λ l. l ≡ []) cut c.loop-i.seats.items e.got i.none in
    let none-of-it : got_by s ≡ [] = subst (λ x. got_by x ≡ []) (sym is) (All-get_or (λ s. got_by s ≡ []) cut k s lt none) in
    let took : takings (desk_of s).own ≡ [] = nil_from_length _ (let a = ap length none-of-it in let b = length-append (takings (desk_of s).own) (flat_map stolen s.tickets.items) in omega arith) in
    let same-deques : deques c.loop-i.seats.items ≡ deques start = same-parts account (λ a. a.deque) c.loop-i.seats.items start i.account in
    let as-many : length c.loop-i.seats.items ≡ length start = same-count account c.loop-i.seats.items start i.account in
    record {
      parts = All-set (HasParts (PARTS - (k + 1))) cut k new (subst (HasParts (PARTS - (k + 1))) (sym is) (All-get_or (HasParts (PARTS - (k + 1))) cut k s lt parts)) parts;
      account = map-set_same account cut k new s (ap account is) ∙ same;
      none = All-set (λ s. got_by s ≡ []) cut k new (ap (λ l. l ++ flat_map stolen c.in_ok-row.row.items) took ∙ e.row.2) none;
      tickets = subst (AreUpTo (λ ts. AreTickets (deques start) ts.items × (length ts.items ≡ length start)) (λ ts. Unit {0}) (k + 1)) (sym (map-set (λ (s : Seat g.row.T.Denot g.row.W.Denot g.row.K.Denot). s.tickets) cut k new ∙ ap (λ l. set l k c.in_ok-row.row) e.tickets))
          (place-done (λ ts. AreTickets (deques start) ts.items × (length ts.items ≡ length start)) (λ ts. Unit {0}) k (map (λ (s : Seat g.row.T.Denot g.row.W.Denot g.row.K.Denot). s.tickets) c.loop-i.seats.items) c.in_ok-row.row i.tickets (subst (λ l. AreTickets l c.in_ok-row.row.items) same-deques e.row.0, e.row.1 ∙ as-many));
    }

pub returns-clause-parts : goal.returns-clause-parts
returns-clause-parts g c =
    let le : length c.args.seats.now.items ≤ c.loop-i.i = search rules in
    let ge : c.loop-i.i ≤ length c.args.seats.now.items = search rules in
    let e : c.loop-i.i ≡ length c.args.seats.now.items = omega arith in
    subst (λ n. All (HasParts (PARTS - n)) c.loop-i.seats.items) e c.loop-i.invariant.parts

pub returns-clause-tickets : goal.returns-clause-tickets
returns-clause-tickets g c =
    let start = c.args.seats.now.items in let seats = c.loop-i.seats.items in
    let le : length start ≤ c.loop-i.i = search rules in
    let many : length seats ≡ length start = same-count account seats start c.loop-i.invariant.account in
    let rows : length (map (λ (s : Seat g.row.T.Denot g.row.W.Denot g.row.K.Denot). s.tickets) seats) ≡ length seats = length-map seats (λ (s : Seat g.row.T.Denot g.row.W.Denot g.row.K.Denot). s.tickets) in
    let of-all : length (deques start) ≡ length start = length-map start (λ s. worker_deque (desk_of s).own) in
    let all = all-done (λ ts. AreTickets (deques start) ts.items × (length ts.items ≡ length start)) (λ ts. Unit {0}) c.loop-i.i (map (λ (s : Seat g.row.T.Denot g.row.W.Denot g.row.K.Denot). s.tickets) seats) (omega arith) c.loop-i.invariant.tickets in
    of-map (λ (s : Seat g.row.T.Denot g.row.W.Denot g.row.K.Denot). s.tickets) (λ ts. AreTickets (deques start) ts.items × (length ts.items ≡ length (deques start))) seats (λ k d lt. ((all k d lt).0, (all k d lt).1 ∙ sym of-all))
