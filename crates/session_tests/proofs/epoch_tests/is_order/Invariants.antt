use Rattle.std.proofs.Common.{◌≡◌}
use Rattle.ideal_heap.specs.Plain.{mutators_of}
use Rattle.session_tests.proofs.epoch_tests.is_order.Given as goal

abbrev pub invariant-loop-k : goal.invariant-loop-k
invariant-loop-k g l = mutators_of l.ideal ≡ 2
