use Rattle.trace_core.proofs.Law.{sound}
use Rattle.trace_core.proofs.Clauses.{targets-inside, targets-apart, extents-apart, has-room}
use Rattle.trace_core.proofs.laws.targets_are_apart.Goals as goal

pub returns-clause-inside : goal.returns-clause-inside
returns-clause-inside c = targets-inside

pub returns-clause-targets : goal.returns-clause-targets
returns-clause-targets c = targets-apart

pub returns-clause-extents : goal.returns-clause-extents
returns-clause-extents c = extents-apart

pub returns-clause-room : goal.returns-clause-room
returns-clause-room c = has-room

pub returns-clause-free : goal.returns-clause-free
returns-clause-free c p es trace b = (sound p es trace).objects.free b
