use Rattle.std.proofs.Common.{ℕ, ◌<◌, IsTrue}
use Rattle.object_model.specs.Heaps.{heap_state}
use Rattle.trace_tests.specs.Blocks.{is_large}
use Rattle.trace_tests.proofs.heaps.check_small.Given as goal

abbrev pub invariant-loop-block : goal.invariant-loop-block
invariant-loop-block g l = (b : ℕ) → b < l.block → IsTrue (is_large (heap_state l.heap) b) → ⊥
