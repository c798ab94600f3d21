use Rattle.mutator_core.proofs.EpochEnds.{log-counted}
use Rattle.mutator_core.proofs.laws.tickets_are_counted.Goals as goal

pub returns-clause-budget : goal.returns-clause-budget
returns-clause-budget c p i log is = (log-counted p i log is).budget

pub returns-clause-allowed : goal.returns-clause-allowed
returns-clause-allowed c p i log is = (log-counted p i log is).allowed

pub returns-clause-free : goal.returns-clause-free
returns-clause-free c p i log is = (log-counted p i log is).free

pub returns-clause-drawn : goal.returns-clause-drawn
returns-clause-drawn c p i log is = (log-counted p i log is).drawn

pub returns-clause-distinct : goal.returns-clause-distinct
returns-clause-distinct c p i log is = (log-counted p i log is).apart
