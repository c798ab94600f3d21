use Rattle.std.proofs.Common.{◌≡◌, ◌+◌, ◌<◌}
use Rattle.trace_core.specs.Machine.{ByRoot}
use Rattle.trace_table.specs.Seats.{IsSeat, Looks, setup_at}
use Rattle.trace_table.proofs.table.TraceTable.has_room.Given as goal

abbrev pub ghosts-try_block : goal.ghosts-try_block
ghosts-try_block a = record { setup = setup_at a.self.now; cause = ByRoot; object = 0; target = 0; index = a.block; worker = 0 }

abbrev pub invariant-loop-block : goal.invariant-loop-block
invariant-loop-block l = record {
  seat : IsSeat l.self l.seat;
  looks : Looks l.fn.seat.seat.me.0 l.seat.seat.me.0;
  next : l.seat.next_block ≡ l.block;
  tight : l.seat.limit < l.seat.front + l.words;
}
