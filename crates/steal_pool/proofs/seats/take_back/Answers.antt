use Rattle.std.proofs.Common.{◌≡◌, ◌+◌, ◌-◌, List, [], ◌∷◌, ◌++◌, refl, sym, ap, ◌∙◌, subst, arith}
use Rattle.std.specs.List.{flat_map}
use Rattle.std.specs.List.Sorted.{IsPermutation}
use Rattle.work_packets.specs.declared.packet.Packet.{Packet}
use Rattle.work_packets.proofs.Pieces.{piece, join, rearranged}
use Rattle.crossbeam_deque.specs.Handles.{worker_view, worker_deque}
use Rattle.steal_pool.specs.declared.desk.Desk.{Desk}
use Rattle.steal_pool.specs.declared.rule.Hand.{Hand}
use Rattle.steal_pool.specs.Ends.{IsOwner, stolen, puts, takings}
use Rattle.steal_pool.specs.Seats.{desk_of}
use Rattle.steal_pool.proofs.Moves.{own_merges}
use Rattle.steal_pool.proofs.Rounds.{accounted, same-account}
use Rattle.steal_pool.proofs.seats.take_back.Goals as goal

pub absorb-requires-clause-rule : goal.absorb-requires-clause-rule
absorb-requires-clause-rule g c =
    let o = subst (λ (d : Desk g.row.T.Denot g.row.W.Denot g.row.K.Denot). IsOwner d.own) (sym c.deref_mut-desk.ensures.value) c.requires.owner in
    own_merges g.K.Fits.fits _ _ _ _ o.0 o.2

pub returns-clause-parts : goal.returns-clause-parts
returns-clause-parts g c = λ n h.
    let s = c.absorb.ensures.same.0 in let v = ap (λ (y : Hand g.row.T.Denot). y.parts) c.absorb.ensures.rule in
    let p = subst (λ (d : Desk g.row.T.Denot g.row.W.Denot g.row.K.Denot). IsOwner d.own × ((worker_view d.own).parts ≡ n)) (sym c.deref_mut-desk.ensures.value) h in
    let q = p.1 in let o = p.0.2 in let t = c.requires.ticket.1 in
    ((s.2 ∙ p.0.0, s.1 ∙ p.0.1, omega arith), omega arith)

pub returns-clause-account : goal.returns-clause-account
returns-clause-account g c =
    same-account _ _ _ _ _ _ _ c.absorb.ensures.same.0.0 (ap (λ (y : Hand g.row.T.Denot). y.put) c.absorb.ensures.rule)
    ∙ ap (λ (d : Desk g.row.T.Denot g.row.W.Denot g.row.K.Denot). accounted d.worker (worker_deque d.own) (puts d.own) d.backlog.items d.later.items) c.deref_mut-desk.ensures.value

pub returns-clause-got : goal.returns-clause-got
returns-clause-got g c =
    let old : List (Packet g.row.T.Denot) = takings (desk_of c.args.seat.now).own in let t : List (Packet g.row.T.Denot) = stolen c.args.ticket in let others : List (Packet g.row.T.Denot) = flat_map stolen c.args.seat.now.tickets.items in
    let new = ap (λ (y : Hand g.row.T.Denot). y.taken) c.absorb.ensures.rule ∙ ap (λ (d : Desk g.row.T.Denot g.row.W.Denot g.row.K.Denot). takings d.own ++ t) c.deref_mut-desk.ensures.value in
    subst (λ l. IsPermutation ((old ++ others) ++ t) (l ++ others)) (sym new) (rearranged (old ∷ others ∷ t ∷ []) (join (join (piece 0) (piece 1)) (piece 2)) (join (join (piece 0) (piece 2)) (piece 1)) refl)
