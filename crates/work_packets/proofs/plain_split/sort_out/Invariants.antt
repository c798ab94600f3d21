use Rattle.std.proofs.Common.{◌+◌, ◌≤◌, ◌++◌, All, length}
use Rattle.std.specs.List.Sorted.{IsPermutation}
use Rattle.work_packets.specs.Buckets.{IsSameOrLater}
use Rattle.work_packets.specs.Packets.{packets_of, packets_after}
use Rattle.work_packets.proofs.plain_split.sort_out.Given as goal

abbrev pub invariant-loop-p : goal.invariant-loop-p
invariant-loop-p g l = record {
  order : All (λ p. IsSameOrLater l.b p.bucket) l.pushed.items;
  now : IsPermutation (l.initial.todo.items ++ packets_of l.b l.initial.pushed.items) (l.todo.items ++ packets_of l.b l.pushed.items);
  after : IsPermutation (l.initial.later.items ++ packets_after l.b l.initial.pushed.items) (l.later.items ++ packets_after l.b l.pushed.items);
  few : length l.todo.items + length l.pushed.items ≤ length l.initial.todo.items + length l.initial.pushed.items;
}

abbrev pub decreases-loop-p : goal.decreases-loop-p
decreases-loop-p g l = goal.left-loop-p g l
