use Rattle.std.proofs.Common.{◌+◌, slice_index}
use Rattle.block_sweeps.proofs.DifferingWords.{AreDifferences}
use Rattle.block_sweeps.proofs.differing.eight_differ.Given as goal

abbrev pub invariant-loop-index : goal.invariant-loop-index
invariant-loop-index l = AreDifferences (λ i. slice_index l.words (l.these + i)) (λ i. slice_index l.words (l.those + i)) l.from l.index l.bits
