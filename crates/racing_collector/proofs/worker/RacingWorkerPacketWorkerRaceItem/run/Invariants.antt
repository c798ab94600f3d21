use Rattle.std.proofs.Common.{◌≡◌, length}
use Rattle.racing_collector.proofs.Running.{HasServed}
use Rattle.racing_collector.proofs.worker.RacingWorkerPacketWorkerRaceItem.run.Given as goal

abbrev pub invariant-loop-item : goal.invariant-loop-item
invariant-loop-item g l = record {
  same : l.self.racing.now ≡ l.fn.self.racing.now;
  tally : l.self.tally ≡ l.fn.self.tally;
  served : HasServed l.self.racing.now l.fn.self.seat.seat.me.0 l.self.seat.seat.me.0 l.fn.self.served.items l.self.served.items l.fn.p.items.items l.items.items l.won.items;
}

abbrev pub decreases-loop-item : goal.decreases-loop-item
decreases-loop-item g l = length l.items.items
