use Rattle.std.proofs.Common.{refl}
use Rattle.ideal_heap.specs.Ideal.{step}
use Rattle.programs.proofs.examples.history_examples.Goals as goal

pub returns : goal.returns
unfolding step
returns c = refl
