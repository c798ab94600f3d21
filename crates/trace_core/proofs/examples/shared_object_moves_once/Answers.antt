use Rattle.std.proofs.Common.{refl}
use Rattle.trace_core.proofs.WorkedTraces.{shared-ready, shared-events, shared-finished}
use Rattle.trace_core.proofs.examples.shared_object_moves_once.Goals as goal

pub returns-clause-trace : goal.returns-clause-trace
returns-clause-trace c = record { ready = shared-ready; events = shared-events }

pub returns-clause-stages : goal.returns-clause-stages
returns-clause-stages c = refl

pub returns-clause-words : goal.returns-clause-words
returns-clause-words c = refl

pub returns-clause-moves : goal.returns-clause-moves
returns-clause-moves c = refl

pub returns-clause-finished : goal.returns-clause-finished
returns-clause-finished c = shared-finished
