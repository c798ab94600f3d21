use Rattle.mutator_core.proofs.Beginnings.{log-ends}
use Rattle.mutator_core.proofs.laws.loaded_headers_stay.Goals as goal

pub returns-clause-shape : goal.returns-clause-shape
returns-clause-shape c p i log is m some = (((log-ends p i log is.ready is.represents is.steps).moment.epoch.knows m).header some).1

pub returns-clause-collector : goal.returns-clause-collector
returns-clause-collector c p i log is m some = (((log-ends p i log is.ready is.represents is.steps).moment.epoch.knows m).age some).1

pub returns-clause-logged : goal.returns-clause-logged
returns-clause-logged c p i log is m = ((log-ends p i log is.ready is.represents is.steps).moment.epoch.knows m).cleared
