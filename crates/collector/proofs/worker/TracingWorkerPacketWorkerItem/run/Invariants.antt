-- Of the packet's items those of the list are left.
use Rattle.std.proofs.Common.{length}
use Rattle.collector.proofs.RunningPackets.{HasServed}
use Rattle.collector.proofs.worker.TracingWorkerPacketWorkerItem.run.Given as goal

abbrev pub invariant-loop-item : goal.invariant-loop-item
invariant-loop-item g l = HasServed l.fn.self.trace l.self.trace l.fn.p.items.items l.items.items

abbrev pub decreases-loop-item : goal.decreases-loop-item
decreases-loop-item g l = length l.items.items
