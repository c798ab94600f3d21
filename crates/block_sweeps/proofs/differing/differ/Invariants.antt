use Rattle.std.proofs.Common.{ℕ, ◌≡◌, ◌+◌, ◌*◌, ◌<◌, slice_index}
use Rattle.block_sweeps.proofs.differing.differ.Given as goal

abbrev pub invariant-loop-eight : goal.invariant-loop-eight
invariant-loop-eight l = (i : ℕ) → i < 8 * l.eight → slice_index l.words (l.these + i) ≡ slice_index l.words (l.those + i)
