use Rattle.std.proofs.Common.{refl}
use Rattle.std.specs.Fmt.{digits}
use Rattle.heap_picture.specs.Drawn.{bar_text}
use Rattle.heap_picture.proofs.examples.bars_by_example.Goals as goal

pub returns-clause-rect : goal.returns-clause-rect
unfolding digits
returns-clause-rect c = refl

pub returns-clause-cells : goal.returns-clause-cells
unfolding digits
returns-clause-cells c = refl

pub returns-clause-rows : goal.returns-clause-rows
unfolding digits bar_text
returns-clause-rows c = refl

pub returns-clause-large : goal.returns-clause-large
unfolding digits bar_text
returns-clause-large c = refl

pub returns-clause-marked : goal.returns-clause-marked
unfolding digits bar_text
returns-clause-marked c = refl
