use Rattle.std.proofs.Common.{map}
use Rattle.crossbeam_deque.specs.Handles.{stealer_deque}
use Rattle.steal_pool.specs.Seats.{HasTickets, GoesOnTo}
use Rattle.steal_pool.proofs.serve.serve.Given as goal

abbrev pub invariant-loop-round : goal.invariant-loop-round
invariant-loop-round g l = record {
  goes : GoesOnTo g.W.PacketWorker.home g.W.PacketWorker.takes g.W.PacketWorker.steps l.b l.fn.seat l.seat;
  tickets : HasTickets (map (λ t. stealer_deque t) l.thieves.items) l.seat;
}
