use Rattle.mutator_core.proofs.Beginnings.{log-ends}
use Rattle.mutator_core.proofs.laws.objects_lie_in_holes.Goals as goal

pub returns-clause-made : goal.returns-clause-made
returns-clause-made c p i log is m x there = (((log-ends p i log is.ready is.represents is.steps).moment.epoch.knows m).objects x there).place

pub returns-clause-unpublished : goal.returns-clause-unpublished
returns-clause-unpublished c p i log is m some = (((log-ends p i log is.ready is.represents is.steps).moment.epoch.knows m).unpublished some).available
