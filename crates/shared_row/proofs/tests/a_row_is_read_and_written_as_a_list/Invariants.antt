use Rattle.std.proofs.Common.{◌≡◌, length}
use Rattle.shared_row.proofs.tests.a_row_is_read_and_written_as_a_list.Given as goal

abbrev pub invariant-loop : goal.invariant-loop
invariant-loop g l = (length l.row ≡ 1000) × (length l.list.items ≡ 1000)
