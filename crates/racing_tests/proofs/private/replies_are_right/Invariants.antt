use Rattle.std.specs.Prelude.{◌≡◌}
use Rattle.ideal_heap.specs.Plain.{mutators_of}
use Rattle.racing_mutator.specs.RacingSeats.{MayCall}
use Rattle.racing_world.specs.Calls.{number_of}
use Rattle.racing_tests.proofs.private.replies_are_right.Given as goal

abbrev pub invariant-loop : goal.invariant-loop
invariant-loop g l = MayCall g.P.Plan.rules l.world.row l.seat
    × (number_of l.seat ≡ number_of l.initial.seat) × (mutators_of l.ideal ≡ 16)
