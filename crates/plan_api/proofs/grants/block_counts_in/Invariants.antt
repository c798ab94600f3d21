use Rattle.std.proofs.Common.{◌≡◌, ◌≤◌, ◌||◌}
use Rattle.heap_layout.specs.declared.block.Kind.TheVariants as kinds
use Rattle.object_model.specs.Objects.{has_kind, shown}
use Rattle.plan_api.proofs.Tallies.{count_below}
use Rattle.plan_api.proofs.grants.block_counts_in.Given as goal

abbrev pub invariant-loop-block : goal.invariant-loop-block
invariant-loop-block g l = record {
  few_free : l.free ≤ l.block;
  few_large : l.large ≤ l.block;
  free : l.free ≡ count_below (λ k. has_kind (shown (g.W.Words.words l.words) l.layout) k kinds.Free) l.block;
  large : l.large ≡ count_below (λ k. has_kind (shown (g.W.Words.words l.words) l.layout) k kinds.LargeHead || has_kind (shown (g.W.Words.words l.words) l.layout) k kinds.LargeTail) l.block;
}
