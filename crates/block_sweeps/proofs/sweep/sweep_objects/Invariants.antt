use Rattle.std.proofs.Common.{◌≡◌, ◌+◌, ◌*◌, ◌-◌}
use Rattle.std.specs.Prelude.{count_by}
use Rattle.std.specs.List.{range_with_len}
use Rattle.heap_layout.specs.Zones.{block_start}
use Rattle.object_model.specs.Objects.{state_over, is_start}
use Rattle.block_sweeps.specs.WordSweeps.{SweepsWords}
use Rattle.block_sweeps.proofs.sweep.sweep_objects.Given as goal

abbrev pub invariant-loop-index : goal.invariant-loop-index
invariant-loop-index g l = record {
  swept : SweepsWords l.base (64 * l.block) (l.index - 64 * l.block) (state_over (g.W.Words.words l.fn.words) l.layout 0 0) (state_over (g.W.Words.words l.words) l.layout 0 0);
  count : l.count ≡ count_by (λ w. is_start (state_over (g.W.Words.words l.words) l.layout 0 0) (block_start l.layout.blocks l.block + w)) (range_with_len 0 (64 * (l.index - 64 * l.block)));
}
