use Rattle.std.proofs.Common.{◌≡◌, ◌≤◌}
use Rattle.std.specs.Prelude.{count_by}
use Rattle.std.specs.List.{range_with_len}
use Rattle.heap_layout.specs.declared.block.Kind.TheVariants as kinds
use Rattle.object_model.specs.Objects.{state_over, has_kind}
use Rattle.immix_space.proofs.candidate_blocks.free_blocks.Given as goal

abbrev pub invariant-loop-block : goal.invariant-loop-block
invariant-loop-block g l = record {
  most : l.free ≤ l.block;
  value : l.free ≡ count_by (λ k. has_kind (state_over (g.W.Words.words l.words) l.layout 0 0) k kinds.Free) (range_with_len 0 l.block);
}
