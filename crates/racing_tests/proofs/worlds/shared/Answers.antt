use Rattle.std.proofs.Common.{sym}
use Rattle.racing_tests.proofs.worlds.shared.Goals as goal

pub opened-requires-clause-remembers : goal.opened-requires-clause-remembers
opened-requires-clause-remembers g c = c.close-heap.ensures.remembers g.P.Plan.rules (sym c.requires.young)
