use Rattle.std.proofs.Common.{refl}
use Rattle.ideal_heap.specs.Ideal.{step}
use Rattle.ideal_heap.proofs.examples.number_examples.Goals as goal

pub returns-clause-wraps : goal.returns-clause-wraps
unfolding step
returns-clause-wraps c = refl

pub returns-clause-sums : goal.returns-clause-sums
unfolding step
returns-clause-sums c = refl
