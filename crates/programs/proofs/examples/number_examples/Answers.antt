use Rattle.std.proofs.Common.{refl}
use Rattle.ideal_heap.specs.Ideal.{step}
use Rattle.programs.proofs.examples.number_examples.Goals as goal

pub returns-clause-written : goal.returns-clause-written
unfolding step
returns-clause-written c = refl

pub returns-clause-other : goal.returns-clause-other
unfolding step
returns-clause-other c = refl

pub returns-clause-lacks : goal.returns-clause-lacks
unfolding step
returns-clause-lacks c = refl

pub returns-clause-nil : goal.returns-clause-nil
unfolding step
returns-clause-nil c = refl

pub returns-clause-wraps : goal.returns-clause-wraps
unfolding step
returns-clause-wraps c = refl

pub returns-clause-swaps : goal.returns-clause-swaps
unfolding step
returns-clause-swaps c = refl
