use Rattle.object_model.specs.Heaps.{heap_state}
use Rattle.sessions.specs.Plans.{Rules}
use Rattle.sessions.specs.Collecting.{Remembers}
use Rattle.world_tests.proofs.ages.log_some.Given as goal

abbrev pub invariant-loop-old : goal.invariant-loop-old
invariant-loop-old g l = (rules : Rules) → Remembers rules (heap_state l.fn.heap) → Remembers rules (heap_state l.heap)
