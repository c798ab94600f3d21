use Rattle.std.proofs.Common.{◌≡◌, length}
use Rattle.heap_layout.specs.Zones.{row_words}
use Rattle.plan_tests.proofs.immix_sweeps.row_with.Given as goal

abbrev pub invariant-loop-object : goal.invariant-loop-object
invariant-loop-object l = length l.words.items ≡ row_words l.layout.blocks
