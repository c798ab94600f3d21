use Rattle.std.proofs.Common.{refl}
use Rattle.trace_core.proofs.WorkedTraces.{nursery-ready, nursery-events, nursery-finished}
use Rattle.trace_core.proofs.examples.nursery_moves_young_objects.Goals as goal

pub returns-clause-old : goal.returns-clause-old
returns-clause-old c = refl

pub returns-clause-logged : goal.returns-clause-logged
returns-clause-logged c = refl

pub returns-clause-first : goal.returns-clause-first
returns-clause-first c = refl

pub returns-clause-stages : goal.returns-clause-stages
returns-clause-stages c = refl

pub returns-clause-words : goal.returns-clause-words
returns-clause-words c = refl

pub returns-clause-trace : goal.returns-clause-trace
returns-clause-trace c = record { ready = nursery-ready; events = nursery-events }

pub returns-clause-finished : goal.returns-clause-finished
returns-clause-finished c = nursery-finished
