use Rattle.trace_core.proofs.Clauses.{old-target, idle-target, idle-refs}
use Rattle.trace_core.proofs.laws.old_objects_stay.Goals as goal

pub returns-clause-target : goal.returns-clause-target
returns-clause-target c = old-target

pub returns-clause-idle : goal.returns-clause-idle
returns-clause-idle c = idle-target

pub returns-clause-fields : goal.returns-clause-fields
returns-clause-fields c = idle-refs
