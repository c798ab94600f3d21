use Rattle.std.proofs.Common.{◌≡◌}
use Rattle.trace_core.specs.Machine.{ByRoot}
use Rattle.trace_table.specs.Seats.{setup_at, Copying}
use Rattle.trace_table.proofs.table.TraceTable.copy_words.Given as goal

abbrev pub ghosts-copy_step : goal.ghosts-copy_step
ghosts-copy_step a = record { setup = setup_at a.self.now; cause = ByRoot; object = a.won.now.object; target = a.won.now.target; index = a.k; worker = 0 }

abbrev pub invariant-loop-k : goal.invariant-loop-k
invariant-loop-k l = record {
  own : l.seat.table_id ≡ l.fn.seat.table_id;
  share : Copying l.won.object l.k l.fn.seat.me.0 l.seat.me.0;
}
