use Rattle.mutator_core.proofs.EpochEnds.{log-stopped}
use Rattle.mutator_core.proofs.laws.epochs_end_in_stopped_heaps.Goals as goal

pub returns : goal.returns
returns c = log-stopped
