use Rattle.std.proofs.Common.{◌≡◌, ◌<◌, ◌≤◌, ℕ, length, slice_index}
use Rattle.immix_space.specs.Candidates.{marked_with, marked_above}
use Rattle.immix_space.proofs.MarkedSums.{marked_from}
use Rattle.immix_space.proofs.candidate_blocks.lines_above.Given as goal

abbrev pub invariant-loop-holes : goal.invariant-loop-holes
invariant-loop-holes l = record {
  len : length l.lines.items ≡ 257;
  above : l.above ≡ marked_from l.holes l.counts;
  left : (n : ℕ) → n < l.holes → slice_index l.lines.items n ≡ marked_with n l.counts;
  done : (n : ℕ) → l.holes ≤ n → n ≤ 256 → slice_index l.lines.items n ≡ marked_above n l.counts;
}
