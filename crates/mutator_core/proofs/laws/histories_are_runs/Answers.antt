use Rattle.mutator_core.proofs.Beginnings.{log-ends}
use Rattle.object_model.proofs.Representation as standing
use Rattle.mutator_core.proofs.laws.histories_are_runs.Goals as goal

pub returns-clause-run : goal.returns-clause-run
returns-clause-run c p i log is = (log-ends p i log is.ready is.represents is.steps).run

pub returns-clause-represents : goal.returns-clause-represents
returns-clause-represents c p i log is = let end = log-ends p i log is.ready is.represents is.steps in standing.represents _ _ _ end.set end.moment.models
