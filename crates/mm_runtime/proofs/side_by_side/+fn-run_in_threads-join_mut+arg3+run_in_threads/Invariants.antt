-- The parts before the last with commands left are fewer.
use Rattle.std.proofs.Common.{length}
use Rattle.mm_runtime.proofs.side_by_side.+fn-run_in_threads-join_mut+arg3+run_in_threads.Given as goal

abbrev pub decreases-join_mut+arg3 : goal.decreases-join_mut+arg3
decreases-join_mut+arg3 g l = length l.front.now

abbrev pub decreases-run_in_threads : goal.decreases-run_in_threads
decreases-run_in_threads g l = length l.parts.now
