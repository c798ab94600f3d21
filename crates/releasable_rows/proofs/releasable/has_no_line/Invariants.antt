use Rattle.std.proofs.Common.{◌≡◌, ℕ, ◌≤◌, ◌<◌, slice_index}
use Rattle.releasable_rows.proofs.releasable.has_no_line.Given as goal

abbrev pub invariant-loop-index : goal.invariant-loop-index
invariant-loop-index g l = (i : ℕ) → l.lines ≤ i → i < l.index → slice_index (g.W.Words.words l.words) i ≡ 0
