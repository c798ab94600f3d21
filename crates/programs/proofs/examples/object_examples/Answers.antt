use Rattle.std.proofs.Common.{refl}
use Rattle.ideal_heap.specs.Ideal.{step}
use Rattle.programs.proofs.examples.object_examples.Goals as goal

pub returns-clause-alias : goal.returns-clause-alias
unfolding step
returns-clause-alias c = refl

pub returns-clause-apart : goal.returns-clause-apart
unfolding step
returns-clause-apart c = refl

pub returns-clause-nil : goal.returns-clause-nil
unfolding step
returns-clause-nil c = refl

pub returns-clause-lacks : goal.returns-clause-lacks
unfolding step
returns-clause-lacks c = refl

pub returns-clause-stored : goal.returns-clause-stored
unfolding step
returns-clause-stored c = refl

pub returns-clause-got : goal.returns-clause-got
unfolding step
returns-clause-got c = refl
