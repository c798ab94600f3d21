use Rattle.std.proofs.Common.{refl}
use Rattle.ideal_heap.specs.Ideal.{step}
use Rattle.ideal_heap.proofs.examples.object_examples.Goals as goal

pub returns-clause-nulls : goal.returns-clause-nulls
unfolding step
returns-clause-nulls c = refl

pub returns-clause-cycle : goal.returns-clause-cycle
unfolding step
returns-clause-cycle c = refl

pub returns-clause-fields : goal.returns-clause-fields
unfolding step
returns-clause-fields c = refl

pub returns-clause-pins : goal.returns-clause-pins
unfolding step
returns-clause-pins c = refl
