use Rattle.std.proofs.Common.{◌≡◌, ◌+◌, ◌≤◌, All, length}
use Rattle.work_packets.specs.Packets.{HasItems}
use Rattle.trace_table.specs.Seats.{IsGrey}
use Rattle.trace_table.specs.declared.table.TraceTable.{TraceTable}
use Rattle.racing_collector.specs.Items.{AreScans, IsCut, items_of, tokens}
use Rattle.racing_collector.proofs.HandedOut.{Sums}
use Rattle.racing_collector.proofs.handing.hand_on.Given as goal

abbrev pub invariant-loop-first : goal.invariant-loop-first
invariant-loop-first l = record {
  sums : Sums l.fn.won.items l.fn.tally l.won.items l.tally;
  greys : (t : TraceTable) → All (IsGrey t) l.fn.won.items → All (IsGrey t) l.won.items;
  scans : (t : TraceTable) → All (IsGrey t) l.fn.won.items → All (AreScans t) l.pushed.items;
  all : tokens (items_of l.pushed.items) + length l.won.items ≡ length l.fn.won.items;
  few : length l.pushed.items + length l.won.items ≤ length l.fn.won.items;
  sizes : All HasItems l.pushed.items;
  cut : All IsCut l.pushed.items;
}

abbrev pub decreases-loop-first : goal.decreases-loop-first
decreases-loop-first l = length l.won.items
