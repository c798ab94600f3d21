use Rattle.heap_picture.proofs.BarLengths.{bar-short}
use Rattle.heap_picture.proofs.laws.bars_are_short.Goals as goal

pub returns : goal.returns
returns c names blocks k b p few low is = bar-short k b p few low is names blocks
