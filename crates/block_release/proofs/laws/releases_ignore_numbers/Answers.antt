use Rattle.block_release.proofs.Numbers.{releasable-again, releases-again}
use Rattle.block_release.proofs.laws.releases_ignore_numbers.Goals as goal

pub returns-clause-releasable : goal.returns-clause-releasable
returns-clause-releasable k words l number base number' base' block = releasable-again words l number base number' base' block

pub returns-clause-releases : goal.returns-clause-releases
returns-clause-releases k r c age old new l number base number' base' block = releases-again r c age old new l number base number' base' block
