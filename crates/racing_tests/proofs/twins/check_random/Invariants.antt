use Rattle.std.specs.Prelude.{◌≡◌}
use Rattle.plain_world.specs.Calls.{IsOpen}
use Rattle.racing_mutator.specs.RacingSeats.{MayCall}
use Rattle.racing_world.specs.Calls.{number_of}
use Rattle.racing_tests.proofs.twins.check_random.Given as goal

abbrev pub invariant-loop-done : goal.invariant-loop-done
invariant-loop-done g l = IsOpen g.P.Plan.rules l.plain × MayCall g.P.Plan.rules l.world.row l.seat
    × (number_of l.seat ≡ number_of l.initial.seat)
