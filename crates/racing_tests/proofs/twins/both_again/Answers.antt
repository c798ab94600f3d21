use Rattle.std.proofs.Common.{sym}
use Rattle.racing_tests.proofs.twins.both_again.Goals as goal

pub begin-requires-clause-remembers : goal.begin-requires-clause-remembers
begin-requires-clause-remembers g c = c.close-plain_heap.ensures.remembers g.P.Plan.rules (sym c.requires.plain.young)
