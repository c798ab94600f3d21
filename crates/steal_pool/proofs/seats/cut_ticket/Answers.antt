use Rattle.std.proofs.Common.{◌≡◌, ◌+◌, ◌-◌, [], ◌++◌, sym, ap, ◌∙◌, subst, arith}
use Rattle.std.specs.List.{flat_map}
use Rattle.crossbeam_deque.specs.Handles.{worker_port, worker_view, worker_deque}
use Rattle.crossbeam_deque.specs.Tasks.{Forks}
use Rattle.steal_pool.specs.declared.desk.Desk.{Desk}
use Rattle.steal_pool.specs.declared.rule.Hand.{Hand}
use Rattle.steal_pool.specs.Rule.{hand, IsBalanced}
use Rattle.steal_pool.specs.Ends.{IsOwner, stolen, puts, takings}
use Rattle.steal_pool.specs.Seats.{desk_of}
use Rattle.steal_pool.proofs.Moves.{own_forks}
use Rattle.steal_pool.proofs.Rounds.{accounted, same-account}
use Rattle.steal_pool.proofs.seats.cut_ticket.Goals as goal

pub another-requires : goal.another-requires
another-requires g c =
    subst (λ (d : Desk g.row.T.Denot g.row.W.Denot g.row.K.Denot). Forks (IsBalanced g.K.Fits.fits) (worker_port d.own) (worker_view d.own) (hand ((worker_view d.own).parts - 1) (worker_view d.own).put (worker_view d.own).taken) (hand 1 [] [])) (sym c.deref_mut-desk.ensures.value)
    (own_forks g.K.Fits.fits (worker_port (desk_of c.args.seat.now).own) (worker_view (desk_of c.args.seat.now).own) c.requires.owner.0 c.requires.parts)

pub returns-clause-parts : goal.returns-clause-parts
returns-clause-parts g c = λ n h pos.
    let s = c.another.ensures.same.0 in let v = ap (λ (y : Hand g.row.T.Denot). y.parts) c.another.ensures.rule.0 in
    let p = subst (λ (d : Desk g.row.T.Denot g.row.W.Denot g.row.K.Denot). IsOwner d.own × ((worker_view d.own).parts ≡ n + 1)) (sym c.deref_mut-desk.ensures.value) h in
    let q = p.1 in
    ((s.2 ∙ p.0.0, s.1 ∙ p.0.1, omega arith), omega arith)

pub returns-clause-account : goal.returns-clause-account
returns-clause-account g c =
    same-account _ _ _ _ _ _ _ c.another.ensures.same.0.0 (ap (λ (y : Hand g.row.T.Denot). y.put) c.another.ensures.rule.0)
    ∙ ap (λ (d : Desk g.row.T.Denot g.row.W.Denot g.row.K.Denot). accounted d.worker (worker_deque d.own) (puts d.own) d.backlog.items d.later.items) c.deref_mut-desk.ensures.value

pub returns-clause-got : goal.returns-clause-got
returns-clause-got g c =
    ap (λ l. l ++ flat_map stolen c.args.seat.now.tickets.items) (ap (λ (y : Hand g.row.T.Denot). y.taken) c.another.ensures.rule.0 ∙ ap (λ (d : Desk g.row.T.Denot g.row.W.Denot g.row.K.Denot). takings d.own) c.deref_mut-desk.ensures.value)
