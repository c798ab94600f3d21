use Rattle.object_model.proofs.LoggedObjects.{logs-one, logs-no-other, still-remembers}
use Rattle.object_model.proofs.step_laws.cleared_bits_log.Goals as goal

pub returns-clause-logged : goal.returns-clause-logged
returns-clause-logged c old new a clears holds was = logs-one old new a clears holds was

pub returns-clause-others : goal.returns-clause-others
returns-clause-others c old new a x clears differ = logs-no-other old new a clears x differ

pub returns-clause-remembers : goal.returns-clause-remembers
returns-clause-remembers c old new a clears before = still-remembers old new a clears before
