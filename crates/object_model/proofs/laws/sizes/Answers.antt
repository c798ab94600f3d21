use Rattle.std.proofs.Common.{refl}
use Rattle.object_model.proofs.laws.sizes.Goals as goal

pub returns-clause-cells : goal.returns-clause-cells
returns-clause-cells c = refl

pub returns-clause-blocks : goal.returns-clause-blocks
returns-clause-blocks c = refl

pub returns-clause-lines : goal.returns-clause-lines
returns-clause-lines c = refl
