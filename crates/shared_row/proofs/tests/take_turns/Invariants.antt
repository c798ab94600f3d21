use Rattle.std.proofs.Common.{◌≡◌}
use Rattle.shared_row.proofs.tests.take_turns.Given as goal

abbrev pub invariant-loop : goal.invariant-loop
invariant-loop l = l.seat.table_id ≡ l.initial.seat.table_id
