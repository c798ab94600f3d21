use Rattle.std.proofs.Common.{◌≡◌, ℕ, ◌-◌, false, length, slice_index_or}
use Rattle.heap_picture.proofs.places.reach.Given as goal

abbrev pub invariant-loop-taken : goal.invariant-loop-taken
invariant-loop-taken l = (i : ℕ) → slice_index_or l.taken.items i false ≡ slice_index_or l.fn.taken.items i false

abbrev pub decreases-loop-taken : goal.decreases-loop-taken
decreases-loop-taken l = l.end - length l.taken.items
