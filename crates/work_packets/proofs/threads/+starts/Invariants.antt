-- The jobs are fewer at each start.
use Rattle.std.proofs.Common.{◌+◌, ◌*◌}
use Rattle.work_packets.proofs.threads.+starts.Given as goal

abbrev pub decreases-before : goal.decreases-before
decreases-before g l = 2 * l.jobs.len + 1

abbrev pub decreases-start_each : goal.decreases-start_each
decreases-start_each g l = 2 * l.jobs.len
