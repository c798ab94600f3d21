use Rattle.std.proofs.Common.{◌≡◌, map, length, sym, subst}
use Rattle.crossbeam_deque.specs.Handles.{stealer_deque}
use Rattle.steal_pool.specs.Ends.{AreTickets}
use Rattle.steal_pool.specs.Seats.{desk_of}
use Rattle.steal_pool.specs.Served.{IsFitting}
use Rattle.steal_pool.proofs.Rounds.{then-goes, still-owner}
use Rattle.steal_pool.proofs.serve.serve.Goals as goal

pub loop-round-init : goal.loop-round-init
loop-round-init g c = record {
  goes = c.in_ok-finish.ensures.goes;
  tickets = subst (λ ts. AreTickets (map (λ t. stealer_deque t) c.args.thieves.now.items) ts.items × (length ts.items ≡ length (map (λ t. stealer_deque t) c.args.thieves.now.items))) (sym c.in_ok-finish.ensures.tickets) c.requires.tickets;
}

pub look_round-requires-clause-owner : goal.look_round-requires-clause-owner
look_round-requires-clause-owner g c κs within = still-owner (desk_of c.args.seat).own (desk_of c.loop-round.seat).own c.loop-round.invariant.goes.keeps c.requires.owner

pub look_round-requires-clause-fitting : goal.look_round-requires-clause-fitting
look_round-requires-clause-fitting g c κs within = subst (IsFitting g.K.Fits.fits c.args.b g.W.PacketWorker.takes) (sym c.loop-round.invariant.goes.same_home) c.requires.fitting

pub loop-round-preserved : goal.loop-round-preserved
loop-round-preserved g c = record {
  goes = then-goes g.W.PacketWorker.home g.W.PacketWorker.takes g.W.PacketWorker.steps c.args.b c.args.seat c.loop-round.seat c.look_round.new.seat c.loop-round.invariant.goes c.in_ok-look_round.ensures.goes;
  tickets = c.in_ok-look_round.ensures.tickets;
}
