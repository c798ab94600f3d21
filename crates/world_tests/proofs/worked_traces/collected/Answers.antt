use Rattle.std.proofs.Common.{sym}
use Rattle.world_tests.proofs.worked_traces.collected.Goals as goal

pub kind_of-kind-requires : goal.kind_of-kind-requires
kind_of-kind-requires g c = c.close-heap.ensures.remembers g.P.Plan.rules (sym c.requires.open.young)
