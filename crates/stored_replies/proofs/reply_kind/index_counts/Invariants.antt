-- The kinds that were read are counted.
use Rattle.std.proofs.Common.{◌≡◌, ℕ, ◌<◌, length, take, slice_index, count_by}
use Rattle.stored_replies.specs.Kinds.{is_of_index}
use Rattle.stored_replies.proofs.reply_kind.index_counts.Given as goal

abbrev pub invariant-loop-kind : goal.invariant-loop-kind
invariant-loop-kind l = record {
  len : length l.counts ≡ 10;
  counts : (i : ℕ) → i < 10 → slice_index l.counts i ≡ count_by (is_of_index i) (take l.kind-index l.kinds);
}
