use Rattle.std.proofs.Common.{◌≡◌, ◌+◌, List, [], ◌++◌, length, All}
use Rattle.work_packets.specs.Awaiting.{AwaitsAll}
use Rattle.work_packets.specs.Packets.{HasItems}
use Rattle.work_packets.specs.Steps.{Step, RunsShare}
use Rattle.work_packets.proofs.Logs.{did}
use Rattle.work_packets.proofs.plain_split.run_share.Given as goal

abbrev pub invariant-loop-p : goal.invariant-loop-p
invariant-loop-p g l = record {
  same_home : g.W.PacketWorker.home l.worker ≡ g.W.PacketWorker.home l.initial.worker;
  in_bucket : All (λ p. p.bucket ≡ l.b) l.todo.items;
  sized : All HasItems l.todo.items;
  taken : All (g.W.PacketWorker.takes (g.W.PacketWorker.home l.initial.worker)) l.todo.items;
  later_sized : All HasItems l.later.items;
  later_taken : All (g.W.PacketWorker.takes (g.W.PacketWorker.home l.initial.worker)) l.later.items;
  none_pushed : l.pushed.items ≡ [];
  log : List (Step g.row.W.Denot g.row.T.Denot);
  awaited : (start : g.row.W-Start.Denot) → AwaitsAll g.W.PacketWorker.awaits start l.initial.worker l.initial.todo.items → AwaitsAll g.W.PacketWorker.awaits start l.worker (l.todo.items ++ l.later.items);
  runs : RunsShare g.W.PacketWorker.steps (did l.b l.initial.worker l.initial.todo.items log l.worker l.todo.items l.later.items);
}

abbrev pub decreases-loop-p : goal.decreases-loop-p
decreases-loop-p g l = g.W.PacketWorker.left l.worker + length l.todo.items
