use Rattle.std.proofs.Common.{◌≡◌, ◌≤◌, ℕ, length, take, slice_index}
use Rattle.immix_space.specs.Candidates.{marked_with}
use Rattle.immix_space.proofs.candidate_blocks.lines_with.Given as goal

abbrev pub invariant-loop-i : goal.invariant-loop-i
invariant-loop-i l = record {
  len : length l.lines.items ≡ 257;
  lines : (n : ℕ) → n ≤ 256 → slice_index l.lines.items n ≡ marked_with n (take l.i l.counts);
}
