use Rattle.std.proofs.Common.{◌≡◌}
use Rattle.heap_layout.specs.Zones.{block_start}
use Rattle.object_model.specs.Heaps.{heap_state}
use Rattle.write_barrier.specs.Listed.{logged_below}
use Rattle.write_barrier.proofs.list.logged_in_flagged.Given as goal

abbrev pub invariant-loop-block : goal.invariant-loop-block
invariant-loop-block l = l.logged.items ≡ logged_below (heap_state l.fn.heap) (block_start (heap_state l.fn.heap).blocks l.block)
