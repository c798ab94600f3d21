use Rattle.std.proofs.Common.{◌≡◌, ◌+◌, ◌++◌, ◌∷◌, [], ◌≤◌, ◌⊎◌, List, All, length, vec_capacity}
use Rattle.std.specs.Prelude.{sum_by}
use Rattle.trace_table.specs.Seats.{IsGrey}
use Rattle.trace_table.specs.declared.table.TraceTable.{TraceTable}
use Rattle.trace_table.specs.declared.tokens.Grey.{Grey}
use Rattle.racing_collector.specs.Accounts.{CountsMore}
use Rattle.racing_collector.specs.Items.{IsScan, references, tokens}
use Rattle.racing_collector.proofs.handing.next_packet.Given as goal

abbrev pub invariant-loop-won : goal.invariant-loop-won
invariant-loop-won l = record {
  parts : (more : List Grey) × (l.fn.won.items ≡ l.won.items ++ more) × CountsMore l.fn.tally l.tally (more ++ l.fn.first ∷ [])
      × (tokens l.items.items ≡ length more + 1) × (length l.items.items ≡ length more + 1);
  scans : (t : TraceTable) → All (IsGrey t) (l.fn.won.items ++ l.fn.first ∷ []) → All (IsScan t) l.items.items × All (IsGrey t) l.won.items;
  few : length l.items.items ≤ 64;
  cut : ((l.room ≡ 0) × (length l.items.items ≡ 1)) ⊎ (sum_by references l.items.items + l.room ≤ 512);
  space : 64 ≤ vec_capacity l.items;
}

abbrev pub decreases-loop-won : goal.decreases-loop-won
decreases-loop-won l = length l.won.items
