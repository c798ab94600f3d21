use Rattle.std.proofs.Common.{refl}
use Rattle.ideal_heap.specs.Ideal.{step}
use Rattle.ideal_heap.proofs.examples.register_examples.Goals as goal

pub returns-clause-moves : goal.returns-clause-moves
unfolding step
returns-clause-moves c = refl

pub returns-clause-shares : goal.returns-clause-shares
unfolding step
returns-clause-shares c = refl
