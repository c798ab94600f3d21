use Rattle.std.proofs.Common.{◌≡◌, length}
use Rattle.trace_tests.proofs.heaps.first_blocks.Given as goal

abbrev pub invariant-loop-block : goal.invariant-loop-block
invariant-loop-block l = length l.from.items ≡ l.block
