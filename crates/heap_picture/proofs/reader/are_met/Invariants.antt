use Rattle.std.proofs.Common.{◌≤◌, ◌<◌, ℕ, slice_index_or}
use Rattle.heap_picture.proofs.reader.are_met.Given as goal

abbrev pub invariant-loop-m : goal.invariant-loop-m
invariant-loop-m l = (i : ℕ) → i < l.m → slice_index_or l.wanted i 0 ≤ slice_index_or l.births i 0
