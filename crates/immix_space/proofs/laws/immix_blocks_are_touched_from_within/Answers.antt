use Rattle.immix_space.proofs.LyingObjects.{touched-from-within}
use Rattle.immix_space.proofs.laws.immix_blocks_are_touched_from_within.Goals as goal

pub returns : goal.returns
returns c = touched-from-within
