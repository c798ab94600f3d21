use Rattle.std.proofs.Common.{◌≡◌, ℕ, ◌+◌, ◌<◌, slice_index, length}
use Rattle.plan_api.proofs.readers.start_words.Given as goal

abbrev pub invariant-loop-index : goal.invariant-loop-index
invariant-loop-index g l = (length l.starts ≡ 64) × ((m : ℕ) → m < l.index → slice_index l.starts m ≡ slice_index (g.W.Words.words l.words) (l.at + m))
