use Rattle.std.proofs.Common.{◌≡◌}
use Rattle.trace_core.specs.Machine.{ByRoot}
use Rattle.trace_table.specs.Seats.{IsSeat, Looks, SameRoom, setup_at}
use Rattle.trace_table.proofs.table.TraceTable.take_copy_block.Given as goal

abbrev pub ghosts-take_if_free : goal.ghosts-take_if_free
ghosts-take_if_free a = record { setup = setup_at a.self.now; cause = ByRoot; object = 0; target = 0; index = a.block; worker = 0 }

abbrev pub invariant-loop-block : goal.invariant-loop-block
invariant-loop-block l = record {
  seat : IsSeat l.self l.seat;
  looks : Looks l.fn.seat.seat.me.0 l.seat.seat.me.0;
  room : SameRoom l.fn.seat.seat.me.0 l.seat.seat.me.0;
  next : l.seat.next_block ≡ l.block;
}
