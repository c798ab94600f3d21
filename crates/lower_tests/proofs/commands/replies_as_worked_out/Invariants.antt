use Rattle.std.proofs.Common.{◌≡◌}
use Rattle.ideal_heap.specs.Plain.{mutators_of}
use Rattle.lower_tests.proofs.commands.replies_as_worked_out.Given as goal

abbrev pub invariant-loop-mutator : goal.invariant-loop-mutator
invariant-loop-mutator g l = mutators_of l.heap ≡ 2
