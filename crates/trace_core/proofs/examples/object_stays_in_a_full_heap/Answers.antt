use Rattle.std.proofs.Common.{refl}
use Rattle.trace_core.proofs.WorkedTraces.{full-ready, full-events, full-finished}
use Rattle.trace_core.proofs.examples.object_stays_in_a_full_heap.Goals as goal

pub returns-clause-trace : goal.returns-clause-trace
returns-clause-trace c = record { ready = full-ready; events = full-events }

pub returns-clause-moves : goal.returns-clause-moves
returns-clause-moves c = refl

pub returns-clause-stage : goal.returns-clause-stage
returns-clause-stage c = refl

pub returns-clause-words : goal.returns-clause-words
returns-clause-words c = refl

pub returns-clause-finished : goal.returns-clause-finished
returns-clause-finished c = full-finished

pub returns-clause-asked : goal.returns-clause-asked
returns-clause-asked c = refl
