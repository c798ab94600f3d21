use Rattle.std.proofs.Common.{◌≡◌, ℕ, ◌&&◌, ◌||◌, false, length, nat_le, nat_lt, slice_index_or}
use Rattle.heap_picture.proofs.places.mark.Given as goal

-- the words before k are marked
abbrev pub invariant-loop-k : goal.invariant-loop-k
invariant-loop-k l = record {
  long : length l.taken ≡ length l.fn.taken;
  marked : (i : ℕ) → slice_index_or l.taken i false ≡ (slice_index_or l.fn.taken i false || nat_le l.from i && nat_lt i l.k);
}
