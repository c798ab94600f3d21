use Rattle.std.specs.Prelude.{◌≡◌}
use Rattle.ideal_heap.specs.Plain.{mutators_of}
use Rattle.racing_tests.proofs.private.ideal_of_seat.Given as goal

abbrev pub invariant-loop : goal.invariant-loop
invariant-loop l = mutators_of l.ideal ≡ 16
