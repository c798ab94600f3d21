use Rattle.mutator_core.proofs.Beginnings.{log-ends}
use Rattle.mutator_core.proofs.laws.heaps_stay_in_order.Goals as goal

pub returns-clause-order : goal.returns-clause-order
returns-clause-order c p i log is = (log-ends p i log is.ready is.represents is.steps).moment.models.order

pub returns-clause-free : goal.returns-clause-free
returns-clause-free c p i log is = (log-ends p i log is.ready is.represents is.steps).moment.epoch.free

pub returns-clause-remembers : goal.returns-clause-remembers
returns-clause-remembers c p i log is = (log-ends p i log is.ready is.represents is.steps).moment.epoch.remembers
