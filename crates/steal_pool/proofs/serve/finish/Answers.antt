use Rattle.std.proofs.Common.{◌≡◌, List, [], ◌++◌, All, refl, sym, subst}
use Rattle.work_packets.specs.declared.packet.Packet.{Packet}
use Rattle.steal_pool.specs.declared.desk.Desk.{Desk}
use Rattle.steal_pool.specs.Ends.{IsOwner, Keeps, puts, takings}
use Rattle.steal_pool.specs.Served.{IsFitting}
use Rattle.steal_pool.proofs.Services.{GoesOn}
use Rattle.steal_pool.proofs.Rounds.{goes-drained}
use Rattle.steal_pool.proofs.serve.finish.Goals as goal

pub drain-requires-clause-owner : goal.drain-requires-clause-owner
drain-requires-clause-owner g c κs within = subst (λ (d : Desk g.row.T.Denot g.row.W.Denot g.row.K.Denot). IsOwner d.own) (sym c.deref_mut-desk.ensures.value) c.requires.owner

pub drain-requires-clause-fitting : goal.drain-requires-clause-fitting
drain-requires-clause-fitting g c κs within = subst (λ (d : Desk g.row.T.Denot g.row.W.Denot g.row.K.Denot). IsFitting g.K.Fits.fits c.args.b g.W.PacketWorker.takes (g.W.PacketWorker.home d.worker)) (sym c.deref_mut-desk.ensures.value) c.requires.fitting

pub drain-requires-clause-fit : goal.drain-requires-clause-fit
drain-requires-clause-fit g c κs within = subst (λ (d : Desk g.row.T.Denot g.row.W.Denot g.row.K.Denot). All g.K.Fits.fits d.backlog.items) (sym c.deref_mut-desk.ensures.value) c.requires.fit

pub returns-clause-goes : goal.returns-clause-goes
returns-clause-goes g c =
    let home = g.W.PacketWorker.home in let takes = g.W.PacketWorker.takes in let steps = g.W.PacketWorker.steps in let b = c.args.b in let e = c.deref_mut-desk.ensures.value in let d = c.in_ok-drain.ensures in
    let new : Desk g.row.T.Denot g.row.W.Denot g.row.K.Denot = c.drain.new.desk in
    goes-drained home takes steps b c.args.seat.now _ refl (subst (λ (x : Desk g.row.T.Denot g.row.W.Denot g.row.K.Denot). Keeps x.own new.own) e d.keeps) (subst (λ (x : Desk g.row.T.Denot g.row.W.Denot g.row.K.Denot). home new.worker ≡ home x.worker) e d.home) d.none.1
    (subst (λ (x : Desk g.row.T.Denot g.row.W.Denot g.row.K.Denot). (more : List (Packet g.row.T.Denot)) × (takings new.own ≡ takings x.own ++ more)
    × GoesOn home takes steps b x.worker (puts x.own) x.backlog.items x.later.items new.worker (puts new.own) [] new.later.items more) e d.served)
