use Rattle.std.proofs.Common.{◌≡◌, [], All, refl, sym, ap, ◌∙◌, subst, arith}
use Rattle.std.proofs.lemmas.List.Elements.{All-filter, All-nil}
use Rattle.work_packets.specs.Packets.{packets_of}
use Rattle.steal_pool.proofs.Services.{refused-fit}
use Rattle.crossbeam_deque.specs.Handles.{worker_view}
use Rattle.steal_pool.specs.declared.desk.Desk.{Desk}
use Rattle.steal_pool.specs.declared.rule.Hand.{Hand}
use Rattle.steal_pool.specs.declared.rule.TheConstants.{PARTS}
use Rattle.steal_pool.specs.Ends.{IsOwner, puts}
use Rattle.steal_pool.specs.Served.{IsServed}
use Rattle.steal_pool.proofs.Moves.{begins}
use Rattle.steal_pool.proofs.Opening.{in-order, begun}
use Rattle.steal_pool.proofs.Rounds.{still-owner}
use Rattle.steal_pool.proofs.seats.open_seat.Goals as goal

pub lifo_as-requires : goal.lifo_as-requires
lifo_as-requires g c = begins g.K.Fits.fits

pub hand_out-requires-clause-owner : goal.hand_out-requires-clause-owner
hand_out-requires-clause-owner g c = let e = c.in_ok-own.ensures in (e.2, e.1, let parts = ap (λ (v : Hand g.row.T.Denot). v.parts) e.4 in omega arith)

pub hand_out-requires-clause-order : goal.hand_out-requires-clause-order
hand_out-requires-clause-order g c = in-order c.args.b c.args.share.packets.items c.requires.bucket

pub hand_out-requires-clause-fit : goal.hand_out-requires-clause-fit
hand_out-requires-clause-fit g c = All-filter _ g.K.Fits.fits c.args.share.packets.items c.requires.fit

pub returns-clause-parts : goal.returns-clause-parts
returns-clause-parts g c =
    let e = c.in_ok-own.ensures in let k = c.in_ok-hand_out.ensures.keeps.0 in
    subst (λ (d : Desk g.row.T.Denot g.row.W.Denot g.row.K.Denot). IsOwner d.own × ((worker_view d.own).parts ≡ PARTS)) (sym c.new-desk.ensures)
    (still-owner c.in_ok-own.own c.hand_out.new.own k (e.2, e.1, let parts = ap (λ (v : Hand g.row.T.Denot). v.parts) e.4 in omega arith), k.3 ∙ ap (λ (v : Hand g.row.T.Denot). v.parts) e.4)

pub returns-clause-begun : goal.returns-clause-begun
returns-clause-begun g c =
    let home = g.W.PacketWorker.home in let takes = g.W.PacketWorker.takes in let steps = g.W.PacketWorker.steps in let w = c.args.share.worker in let ps = c.args.share.packets.items in
    let e = c.in_ok-own.ensures in let f = c.in_ok-hand_out.ensures.given in
    subst (λ (d : Desk g.row.T.Denot g.row.W.Denot g.row.K.Denot). (d.worker ≡ w) × IsServed home takes steps c.args.b w ps d.worker (puts d.own) [] d.backlog.items d.later.items) (sym c.new-desk.ensures) (
      refl,
      begun home takes steps c.args.b w ps (puts c.in_ok-own.own) (puts c.hand_out.new.own) f.0 c.new-backlog.result.items c.hand_out.new.backlog.items f.1 c.new-later.result.items c.hand_out.new.later.items
          c.requires.bucket (ap (λ (v : Hand g.row.T.Denot). v.put) e.4) c.new-backlog.ensures.items c.new-later.ensures.items f.2 f.3 f.4 c.in_ok-hand_out.ensures.later,
    )

pub returns-clause-fit : goal.returns-clause-fit
returns-clause-fit g c =
    let fits = g.K.Fits.fits in let f = c.in_ok-hand_out.ensures.given in let ps = c.args.share.packets.items in
    subst (λ (d : Desk g.row.T.Denot g.row.W.Denot g.row.K.Denot). All fits d.backlog.items) (sym c.new-desk.ensures)
    (refused-fit fits c.new-backlog.result.items c.hand_out.new.backlog.items (packets_of c.args.b ps) f.0 f.1 f.3 f.4 (subst (All fits) (sym c.new-backlog.ensures.items) (All-nil fits)) (All-filter _ fits ps c.requires.fit))
