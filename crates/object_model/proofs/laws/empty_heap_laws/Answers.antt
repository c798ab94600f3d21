use Rattle.object_model.proofs.Zeros.{lawful, represents, large-room}
use Rattle.object_model.proofs.laws.empty_heap_laws.Goals as goal

pub returns-clause-lawful : goal.returns-clause-lawful
returns-clause-lawful c = lawful

pub returns-clause-represents : goal.returns-clause-represents
returns-clause-represents c = represents

pub returns-clause-large : goal.returns-clause-large
returns-clause-large c = large-room
