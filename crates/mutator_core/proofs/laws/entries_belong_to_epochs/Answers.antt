use Rattle.mutator_core.proofs.EpochEnds.{log-recorded}
use Rattle.mutator_core.proofs.laws.entries_belong_to_epochs.Goals as goal

pub returns : goal.returns
returns c p i log is = (log-recorded p i log is).each
