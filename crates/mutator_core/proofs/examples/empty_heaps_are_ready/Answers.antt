use Rattle.mutator_core.proofs.EmptyHeaps.{empty-ready}
use Rattle.mutator_core.proofs.examples.empty_heaps_are_ready.Goals as goal

pub returns : goal.returns
returns c = empty-ready
