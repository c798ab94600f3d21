use Rattle.std.proofs.Common.{sym}
use Rattle.trace_tests.proofs.ages.close.Goals as goal

pub remembering-requires : goal.remembering-requires
remembering-requires g c = record { remembers = c.close-heap.ensures.remembers g.P.Plan.rules (sym c.requires.open.young) c.requires.young }
