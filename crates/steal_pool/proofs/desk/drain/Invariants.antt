use Rattle.std.proofs.Common.{◌≡◌, ◌+◌, ◌-◌, [], List, ◌++◌, All, length}
use Rattle.work_packets.specs.declared.packet.Packet.{Packet}
use Rattle.steal_pool.specs.Ends.{IsOwner, Keeps, puts, takings}
use Rattle.steal_pool.proofs.Services.{GoesOn}
use Rattle.steal_pool.proofs.desk.drain.Given as goal

abbrev pub invariant-work : goal.invariant-work
invariant-work g l = record {
  owner : IsOwner l.desk.own;
  keeps : Keeps l.initial.desk.own l.desk.own;
  none : l.pushed.items ≡ [];
  home : g.W.PacketWorker.home l.desk.worker ≡ g.W.PacketWorker.home l.initial.desk.worker;
  fit : All g.K.Fits.fits l.desk.backlog.items;
  served : (more : List (Packet g.row.T.Denot)) × (takings l.desk.own ≡ takings l.initial.desk.own ++ more)
      × GoesOn g.W.PacketWorker.home g.W.PacketWorker.takes g.W.PacketWorker.steps l.b l.initial.desk.worker (puts l.initial.desk.own) l.initial.desk.backlog.items l.initial.desk.later.items l.desk.worker (puts l.desk.own) l.desk.backlog.items l.desk.later.items more;
}

abbrev pub decreases-work : goal.decreases-work
decreases-work g l = (length (puts l.desk.own) - length (takings l.desk.own)) + length l.desk.backlog.items + g.W.PacketWorker.left l.desk.worker
