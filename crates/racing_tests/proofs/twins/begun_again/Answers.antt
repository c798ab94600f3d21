use Rattle.std.proofs.Common.{sym}
use Rattle.racing_tests.proofs.twins.begun_again.Goals as goal

pub begin-requires-clause-remembers : goal.begin-requires-clause-remembers
begin-requires-clause-remembers g c = c.close-heap.ensures.remembers g.P.Plan.rules (sym c.requires.young)
