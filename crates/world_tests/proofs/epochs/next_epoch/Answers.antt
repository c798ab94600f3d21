use Rattle.std.proofs.Common.{sym}
use Rattle.world_tests.proofs.epochs.next_epoch.Goals as goal

pub begin_with-requires-clause-flags : goal.begin_with-requires-clause-flags
begin_with-requires-clause-flags g c = c.close_with-heap.ensures.flags g.P.Plan.rules (sym c.requires.open.young)
