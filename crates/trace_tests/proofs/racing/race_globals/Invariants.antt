use Rattle.std.proofs.Common.{All}
use Rattle.std.specs.Vec.Iter.{into_iter_items}
use Rattle.trace_words.specs.Steps.{IsDone}
use Rattle.trace_table.specs.Seats.{setup_at, IsSeat, IsGrey, IsGlobalRoot}
use Rattle.trace_tests.proofs.racing.race_globals.Given as goal

abbrev pub invariant-loop-global : goal.invariant-loop-global
invariant-loop-global l = record {
  seat : IsSeat l.table l.seat;
  done : IsDone (setup_at l.table) l.seat.seat.me.0;
  roots : All (IsGlobalRoot l.table) (into_iter_items l.global-iterator);
  tokens : All (IsGrey l.table) l.stack.items;
}
