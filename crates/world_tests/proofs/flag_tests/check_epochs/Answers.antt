use Rattle.std.proofs.Common.{sym}
use Rattle.world_tests.proofs.flag_tests.check_epochs.Goals as goal

pub stop-requires-clause-remembers : goal.stop-requires-clause-remembers
stop-requires-clause-remembers g c κs within = c.close-heap.ensures.remembers g.P.Plan.rules (sym c.loop.invariant.young)
