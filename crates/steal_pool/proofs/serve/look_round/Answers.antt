use Rattle.std.proofs.Common.{sym, subst}
use Rattle.steal_pool.specs.Seats.{desk_of}
use Rattle.steal_pool.specs.Served.{IsFitting}
use Rattle.steal_pool.proofs.Rounds.{stays-there, then-goes, still-owner}
use Rattle.steal_pool.proofs.serve.look_round.Goals as goal

pub loop-i-init : goal.loop-i-init
loop-i-init g c = record {
  goes = stays-there g.W.PacketWorker.home g.W.PacketWorker.takes g.W.PacketWorker.steps c.args.b c.args.seat.now c.requires.none;
  tickets = c.requires.tickets;
}

pub look_at-requires-clause-owner : goal.look_at-requires-clause-owner
look_at-requires-clause-owner g c κs within = still-owner (desk_of c.args.seat.now).own (desk_of c.loop-i.seat).own c.loop-i.invariant.goes.keeps c.requires.owner

pub look_at-requires-clause-fitting : goal.look_at-requires-clause-fitting
look_at-requires-clause-fitting g c κs within = subst (IsFitting g.K.Fits.fits c.args.b g.W.PacketWorker.takes) (sym c.loop-i.invariant.goes.same_home) c.requires.fitting

pub loop-i-preserved : goal.loop-i-preserved
loop-i-preserved g c = record {
  goes = then-goes g.W.PacketWorker.home g.W.PacketWorker.takes g.W.PacketWorker.steps c.args.b c.args.seat.now c.loop-i.seat c.look_at.new.seat c.loop-i.invariant.goes c.in_ok-look_at.ensures.goes;
  tickets = c.in_ok-look_at.ensures.tickets;
}
