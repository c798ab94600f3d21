use Rattle.std.proofs.Common.{◌≡◌, ◌≤◌, map}
use Rattle.std.specs.Prelude.{vec_capacity, vec_len}
use Rattle.std.specs.List.{range_with_len}
use Rattle.object_model.specs.Objects.{state_over}
use Rattle.immix_space.specs.Candidates.{counts_at}
use Rattle.immix_space.proofs.candidate_blocks.recyclable_counts.Given as goal

abbrev pub invariant-loop-block : goal.invariant-loop-block
invariant-loop-block g l = record {
  len : vec_len l.counts ≡ l.block;
  room : l.layout.blocks ≤ vec_capacity l.counts;
  made : l.counts.items ≡ map (counts_at (state_over (g.W.Words.words l.words) l.layout 0 0)) (range_with_len 0 l.block);
}
