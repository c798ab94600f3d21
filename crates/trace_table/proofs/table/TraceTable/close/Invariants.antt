use Rattle.std.proofs.Common.{◌≡◌, ◌<◌, All, length}
use Rattle.trace_table.specs.Seats.{IsSeat}
use Rattle.trace_table.specs.Ends.{shares_of, joined}
use Rattle.trace_table.proofs.table.TraceTable.close.Given as goal

abbrev pub invariant-loop-worker : goal.invariant-loop-worker
invariant-loop-worker l = record {
  own : l.keeper.table_id ≡ l.fn.self.row.words.table_id;
  live : 0 < l.keeper.me.0.parts;
  seats : All (IsSeat l.fn.self) l.seats.items;
  share : joined (shares_of l.seats.items) l.keeper.me.0 ≡ joined (shares_of l.fn.seats.items) l.fn.self.keeper.me.0;
}

abbrev pub decreases-loop-worker : goal.decreases-loop-worker
decreases-loop-worker l = length l.seats.items
