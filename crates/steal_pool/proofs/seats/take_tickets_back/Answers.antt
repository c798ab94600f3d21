use Rattle.std.proofs.Common.{rules, ◌≡◌, ◌<◌, ◌≤◌, ◌+◌, ◌-◌, [], ◌++◌, All, map, length, set, get_or, refl, sym, ap, ◌∙◌, subst, arith}
use Rattle.std.specs.List.{flat_map}
use Rattle.std.specs.List.Sorted.{IsPermutation}
use Rattle.std.proofs.Math.Seq.{map-set_same}
use Rattle.std.proofs.lemmas.List.{append-nil, length-map, get_or-map, map-set}
use Rattle.std.proofs.lemmas.List.Elements.{All-set, All-get_or}
use Rattle.std.proofs.lemmas.List.Sorted.{IsPermutation-refl, IsPermutation-trans}
use Rattle.crossbeam_deque.specs.Handles.{worker_deque}
use Rattle.steal_pool.specs.declared.rule.TheConstants.{PARTS}
use Rattle.steal_pool.specs.declared.seats.Seat.{Seat}
use Rattle.steal_pool.specs.Ends.{AreTickets, stolen, takings}
use Rattle.steal_pool.specs.Seats.{account, desk_of, deques, got_by, HasParts}
use Rattle.steal_pool.proofs.Places.{AreUpTo, none-yet, next-place, place-done, all-done, same-count, same-parts, flat-set}
use Rattle.steal_pool.proofs.Joined.{of-map, own-takings}
use Rattle.std.proofs.lemmas.List.Elements.{All-map}
use Rattle.steal_pool.proofs.seats.take_tickets_back.Goals as goal

pub loop-i-init : goal.loop-i-init
loop-i-init g c =
    let start = c.args.seats.now.items in let n = length start in
    record {
      parts = let zero : PARTS - n ≡ (PARTS - n) + 0 = omega arith in subst (λ m. All (HasParts m) start) zero c.requires.parts;
      account = refl;
      tickets = none-yet (λ ts. ts.items ≡ []) (λ ts. AreTickets (deques start) ts.items × (length ts.items ≡ length (deques start))) (map (λ (s : Seat g.row.T.Denot g.row.W.Denot g.row.K.Denot). s.tickets) start) (All-map (λ ts. AreTickets (deques start) ts.items × (length ts.items ≡ length (deques start))) (λ (s : Seat g.row.T.Denot g.row.W.Denot g.row.K.Denot). s.tickets) start c.requires.tickets);
      taken = IsPermutation-refl _;
    }

pub take_row_back-requires-clause-tickets : goal.take_row_back-requires-clause-tickets
take_row_back-requires-clause-tickets g c =
    let i = c.loop-i.invariant in let k = c.loop-i.i in let start = c.args.seats.now.items in let seats = c.loop-i.seats.items in
    let below : k < length start = search rules in
    let few : length start < PARTS = c.requires.few in
    let many : length seats ≡ length start = same-count account seats start i.account in
    let lt : k < length seats = omega arith in
    let s = c.index_mut-seat.result.now in let is : s ≡ get_or seats k s = c.index_mut-seat.ensures.value in
    let mid : Seat g.row.T.Denot g.row.W.Denot g.row.K.Denot = record { number = s.number; desk = s.desk; tickets = c.replace-row.new.dest } in let n = (PARTS - length start) + k in
    let without : map account (set seats k mid) ≡ map account seats = map-set_same account seats k mid s (ap account is) in
    let parts : All (HasParts n) (set seats k mid) = All-set (HasParts n) seats k mid (subst (HasParts n) (sym is) (All-get_or (HasParts n) seats k s lt i.parts)) i.parts in
    let rows : length (map (λ (s : Seat g.row.T.Denot g.row.W.Denot g.row.K.Denot). s.tickets) seats) ≡ length seats = length-map seats (λ (s : Seat g.row.T.Denot g.row.W.Denot g.row.K.Denot). s.tickets) in
    let row-at = next-place (λ ts. ts.items ≡ []) (λ ts. AreTickets (deques start) ts.items × (length ts.items ≡ length (deques start))) k (map (λ (s : Seat g.row.T.Denot g.row.W.Denot g.row.K.Denot). s.tickets) seats) s.tickets i.tickets (omega arith) in
    let row-is : get_or (map (λ (s : Seat g.row.T.Denot g.row.W.Denot g.row.K.Denot). s.tickets) seats) k s.tickets ≡ s.tickets = get_or-map (λ (s : Seat g.row.T.Denot g.row.W.Denot g.row.K.Denot). s.tickets) seats k s s.tickets lt ∙ ap (λ (s : Seat g.row.T.Denot g.row.W.Denot g.row.K.Denot). s.tickets) (sym is) in
    let row = subst (λ ts. AreTickets (deques start) ts.items × (length ts.items ≡ length (deques start))) (row-is ∙ sym c.replace-row.ensures.value) row-at in
    let same-deques : deques (set seats k mid) ≡ deques start = same-parts account (λ a. a.deque) (set seats k mid) start (without ∙ i.account) in
    let of-all : length (deques start) ≡ length start = length-map start (λ s. worker_deque (desk_of s).own) in
    let same-many : length (set seats k mid) ≡ length start = same-count account (set seats k mid) start (without ∙ i.account) in
    (subst (λ l. AreTickets l c.replace-row.result.items) (sym same-deques) row.0, row.1 ∙ of-all ∙ sym same-many)

pub take_row_back-requires-clause-parts : goal.take_row_back-requires-clause-parts
take_row_back-requires-clause-parts g c =
    let i = c.loop-i.invariant in let k = c.loop-i.i in let start = c.args.seats.now.items in let seats = c.loop-i.seats.items in
    let below : k < length start = search rules in
    let few : length start < PARTS = c.requires.few in
    let many : length seats ≡ length start = same-count account seats start i.account in
    let lt : k < length seats = omega arith in
    let s = c.index_mut-seat.result.now in let is : s ≡ get_or seats k s = c.index_mut-seat.ensures.value in
    let mid : Seat g.row.T.Denot g.row.W.Denot g.row.K.Denot = record { number = s.number; desk = s.desk; tickets = c.replace-row.new.dest } in let n = (PARTS - length start) + k in
    let without : map account (set seats k mid) ≡ map account seats = map-set_same account seats k mid s (ap account is) in
    let parts : All (HasParts n) (set seats k mid) = All-set (HasParts n) seats k mid (subst (HasParts n) (sym is) (All-get_or (HasParts n) seats k s lt i.parts)) i.parts in
    let rows : length (map (λ (s : Seat g.row.T.Denot g.row.W.Denot g.row.K.Denot). s.tickets) seats) ≡ length seats = length-map seats (λ (s : Seat g.row.T.Denot g.row.W.Denot g.row.K.Denot). s.tickets) in
    let row-at = next-place (λ ts. ts.items ≡ []) (λ ts. AreTickets (deques start) ts.items × (length ts.items ≡ length (deques start))) k (map (λ (s : Seat g.row.T.Denot g.row.W.Denot g.row.K.Denot). s.tickets) seats) s.tickets i.tickets (omega arith) in
    let row-is : get_or (map (λ (s : Seat g.row.T.Denot g.row.W.Denot g.row.K.Denot). s.tickets) seats) k s.tickets ≡ s.tickets = get_or-map (λ (s : Seat g.row.T.Denot g.row.W.Denot g.row.K.Denot). s.tickets) seats k s s.tickets lt ∙ ap (λ (s : Seat g.row.T.Denot g.row.W.Denot g.row.K.Denot). s.tickets) (sym is) in
    let row = subst (λ ts. AreTickets (deques start) ts.items × (length ts.items ≡ length (deques start))) (row-is ∙ sym c.replace-row.ensures.value) row-at in
    let same-deques : deques (set seats k mid) ≡ deques start = same-parts account (λ a. a.deque) (set seats k mid) start (without ∙ i.account) in
    (n, omega arith, parts)

pub loop-i-preserved : goal.loop-i-preserved
loop-i-preserved g c =
    let i = c.loop-i.invariant in let k = c.loop-i.i in let start = c.args.seats.now.items in let seats = c.loop-i.seats.items in
    let below : k < length start = search rules in
    let few : length start < PARTS = c.requires.few in
    let many : length seats ≡ length start = same-count account seats start i.account in
    let lt : k < length seats = omega arith in
    let s = c.index_mut-seat.result.now in let is : s ≡ get_or seats k s = c.index_mut-seat.ensures.value in
    let mid : Seat g.row.T.Denot g.row.W.Denot g.row.K.Denot = record { number = s.number; desk = s.desk; tickets = c.replace-row.new.dest } in let n = (PARTS - length start) + k in
    let without : map account (set seats k mid) ≡ map account seats = map-set_same account seats k mid s (ap account is) in
    let parts : All (HasParts n) (set seats k mid) = All-set (HasParts n) seats k mid (subst (HasParts n) (sym is) (All-get_or (HasParts n) seats k s lt i.parts)) i.parts in
    let rows : length (map (λ (s : Seat g.row.T.Denot g.row.W.Denot g.row.K.Denot). s.tickets) seats) ≡ length seats = length-map seats (λ (s : Seat g.row.T.Denot g.row.W.Denot g.row.K.Denot). s.tickets) in
    let row-at = next-place (λ ts. ts.items ≡ []) (λ ts. AreTickets (deques start) ts.items × (length ts.items ≡ length (deques start))) k (map (λ (s : Seat g.row.T.Denot g.row.W.Denot g.row.K.Denot). s.tickets) seats) s.tickets i.tickets (omega arith) in
    let row-is : get_or (map (λ (s : Seat g.row.T.Denot g.row.W.Denot g.row.K.Denot). s.tickets) seats) k s.tickets ≡ s.tickets = get_or-map (λ (s : Seat g.row.T.Denot g.row.W.Denot g.row.K.Denot). s.tickets) seats k s s.tickets lt ∙ ap (λ (s : Seat g.row.T.Denot g.row.W.Denot g.row.K.Denot). s.tickets) (sym is) in
    let row = subst (λ ts. AreTickets (deques start) ts.items × (length ts.items ≡ length (deques start))) (row-is ∙ sym c.replace-row.ensures.value) row-at in
    let same-deques : deques (set seats k mid) ≡ deques start = same-parts account (λ a. a.deque) (set seats k mid) start (without ∙ i.account) in
    let e = c.take_row_back.ensures in let got = flat_map stolen s.tickets.items in
    let empty : c.replace-row.new.dest.items ≡ [] = search rules in
    let mine : got_by mid ≡ takings (desk_of s).own = ap (λ l. takings (desk_of s).own ++ flat_map stolen l) empty ∙ append-nil (takings (desk_of s).own) in
    let moved : IsPermutation (got_by (get_or seats k s) ++ []) (got_by mid ++ got) =
    subst (λ x. IsPermutation (got_by x ++ []) (got_by mid ++ got)) is (subst (IsPermutation (got_by s ++ [])) (ap (λ l. l ++ got) (sym mine)) (subst (λ l. IsPermutation l (got_by s)) (sym (append-nil (got_by s))) (IsPermutation-refl (got_by s)))) in
    let out = flat-set (λ s. got_by s) seats k mid s [] got lt moved in
    let out-row : IsPermutation (flat_map (λ s. got_by s) seats) (flat_map (λ s. got_by s) (set seats k mid) ++ flat_map stolen c.replace-row.result.items) =
    subst (λ l. IsPermutation l (flat_map (λ s. got_by s) (set seats k mid) ++ flat_map stolen c.replace-row.result.items)) (append-nil (flat_map (λ s. got_by s) seats))
    (subst (λ v. IsPermutation (flat_map (λ s. got_by s) seats ++ []) (flat_map (λ s. got_by s) (set seats k mid) ++ flat_map stolen v.items)) (sym c.replace-row.ensures.value) out) in
    let one : n + 1 ≡ (PARTS - length start) + (k + 1) = omega arith in
    record {
      parts = subst (λ m. All (HasParts m) c.take_row_back.new.seats.items) one (e.parts n parts);
      account = e.account ∙ without ∙ i.account;
      tickets = subst (AreUpTo (λ ts. ts.items ≡ []) (λ ts. AreTickets (deques start) ts.items × (length ts.items ≡ length (deques start))) (k + 1)) (sym (e.tickets ∙ map-set (λ (s : Seat g.row.T.Denot g.row.W.Denot g.row.K.Denot). s.tickets) seats k mid))
          (place-done (λ ts. ts.items ≡ []) (λ ts. AreTickets (deques start) ts.items × (length ts.items ≡ length (deques start))) k (map (λ (s : Seat g.row.T.Denot g.row.W.Denot g.row.K.Denot). s.tickets) seats) c.replace-row.new.dest i.tickets empty);
      taken = IsPermutation-trans _ _ _ i.taken (IsPermutation-trans _ _ _ out-row e.taken);
    }

pub returns-clause-parts : goal.returns-clause-parts
returns-clause-parts g c =
    let le : length c.args.seats.now.items ≤ c.loop-i.i = search rules in
    let ge : c.loop-i.i ≤ length c.args.seats.now.items = search rules in
    let few : length c.args.seats.now.items < PARTS = c.requires.few in
    let e : (PARTS - length c.args.seats.now.items) + c.loop-i.i ≡ PARTS = omega arith in
    subst (λ n. All (HasParts n) c.loop-i.seats.items) e c.loop-i.invariant.parts

pub returns-clause-taken : goal.returns-clause-taken
returns-clause-taken g c =
    let start = c.args.seats.now.items in let seats = c.loop-i.seats.items in
    let le : length start ≤ c.loop-i.i = search rules in
    let many : length seats ≡ length start = same-count account seats start c.loop-i.invariant.account in
    let rows : length (map (λ (s : Seat g.row.T.Denot g.row.W.Denot g.row.K.Denot). s.tickets) seats) ≡ length seats = length-map seats (λ (s : Seat g.row.T.Denot g.row.W.Denot g.row.K.Denot). s.tickets) in
    let all = all-done (λ ts. ts.items ≡ []) (λ ts. AreTickets (deques start) ts.items × (length ts.items ≡ length (deques start))) c.loop-i.i (map (λ (s : Seat g.row.T.Denot g.row.W.Denot g.row.K.Denot). s.tickets) seats) (omega arith) c.loop-i.invariant.tickets in
    subst (IsPermutation (flat_map (λ s. got_by s) start)) (own-takings seats (of-map (λ (s : Seat g.row.T.Denot g.row.W.Denot g.row.K.Denot). s.tickets) (λ ts. ts.items ≡ []) seats all)) c.loop-i.invariant.taken
