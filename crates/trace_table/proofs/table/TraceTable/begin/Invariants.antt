use Rattle.std.proofs.Common.{◌≡◌, false, ◌+◌, ◌≤◌, [], vec_len, vec_capacity}
use Rattle.trace_core.specs.Machine.{ByRoot}
use Rattle.trace_core.specs.Runs.{setup_of}
use Rattle.object_model.specs.Heaps.{heap_state}
use Rattle.trace_table.specs.Seats.{setup_at, IsTable}
use Rattle.trace_table.specs.Ends.{kept_share, NewSeats}
use Rattle.trace_table.proofs.table.TraceTable.begin.Given as goal

abbrev pub ghosts-next_seat : goal.ghosts-next_seat
ghosts-next_seat a = record { setup = setup_at a.self.now; cause = ByRoot; object = 0; target = 0; index = 1; worker = a.k + 1 }

abbrev pub invariant-loop-k : goal.invariant-loop-k
invariant-loop-k l = record {
  table : IsTable l.table;
  setup : setup_at l.table ≡ setup_of (heap_state l.fn.heap) l.fn.run l.workers;
  run : l.table.run ≡ l.fn.run;
  taken : (l.table.globals_taken ≡ false) × (l.table.logged_taken ≡ false);
  keeper : l.table.keeper.me ≡ (kept_share l.fn.run l.workers l.k, []);
  seats : NewSeats l.table l.k l.seats.items;
  room : vec_len l.seats ≡ l.k;
  capacity : l.workers ≤ vec_capacity l.seats;
}
