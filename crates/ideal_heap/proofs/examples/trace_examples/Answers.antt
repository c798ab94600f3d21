use Rattle.std.proofs.Common.{refl}
use Rattle.ideal_heap.proofs.examples.trace_examples.Goals as goal

pub returns : goal.returns
returns c = refl
