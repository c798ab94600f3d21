use Rattle.std.proofs.Common.{◌≡◌, ◌+◌, ◌≤◌, ℕ, length, map, take, slice_index}
use Rattle.std.specs.Prelude.{vec_capacity, vec_len}
use Rattle.std.specs.List.{range_with_len}
use Rattle.immix_space.specs.Candidates.{marked_with, marked_above, is_chosen}
use Rattle.immix_space.proofs.candidate_blocks.choose.Given as goal

abbrev pub invariant-loop-i : goal.invariant-loop-i
invariant-loop-i l = record {
  len : length l.taken.items ≡ 257;
  taken : (n : ℕ) → n ≤ 256 → slice_index l.taken.items n ≡ marked_above n l.counts + marked_with n (take l.i l.counts);
  many : vec_len l.chosen ≡ l.i;
  room : length l.counts ≤ vec_capacity l.chosen;
  made : l.chosen.items ≡ map (is_chosen l.counts l.room) (range_with_len 0 l.i);
}
