use Rattle.std.proofs.Common.{◌≡◌, length}
use Rattle.heap_layout.specs.Zones.{row_words}
use Rattle.plan_tests.proofs.candidates.row_with.Given as goal

abbrev pub invariant-loop-block : goal.invariant-loop-block
invariant-loop-block l = length l.words.items ≡ row_words l.layout.blocks
