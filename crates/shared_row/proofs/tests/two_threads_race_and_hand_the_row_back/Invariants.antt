use Rattle.std.proofs.Common.{◌≡◌, length}
use Rattle.shared_row.proofs.tests.two_threads_race_and_hand_the_row_back.Given as goal

abbrev pub invariant-loop : goal.invariant-loop
invariant-loop g l = length l.row ≡ 4
