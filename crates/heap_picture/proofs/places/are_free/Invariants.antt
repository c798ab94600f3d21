use Rattle.std.proofs.Common.{◌≡◌, ◌≤◌, ◌<◌, ℕ, false, slice_index_or}
use Rattle.heap_picture.proofs.places.are_free.Given as goal

abbrev pub invariant-loop-k : goal.invariant-loop-k
invariant-loop-k l = (i : ℕ) → l.from ≤ i → i < l.k → slice_index_or l.taken i false ≡ false
