use Rattle.std.proofs.Common.{All}
use Rattle.trace_words.specs.Steps.{IsDone}
use Rattle.trace_table.specs.Seats.{setup_at, IsSeat, IsGrey}
use Rattle.trace_tests.proofs.racing.race_registers.Given as goal

abbrev pub invariant-loop-register : goal.invariant-loop-register
invariant-loop-register l = record {
  seat : IsSeat l.table l.seat;
  done : IsDone (setup_at l.table) l.seat.seat.me.0;
  tokens : All (IsGrey l.table) l.stack.items;
}
