use Rattle.std.proofs.Common.{◌≡◌, ◌+◌, ◌*◌}
use Rattle.heap_layout.specs.Zones.{heap_of}
use Rattle.object_model.specs.Heaps.{heap_state}
use Rattle.write_barrier.specs.Listed.{logged_below}
use Rattle.write_barrier.proofs.list.add_block.Given as goal

abbrev pub invariant-loop-word : goal.invariant-loop-word
invariant-loop-word l = l.logged.items ≡ logged_below (heap_state l.fn.heap) (heap_of (heap_state l.fn.heap).blocks + 64 * (64 * l.fn.block + l.word))
