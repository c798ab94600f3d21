use Rattle.std.specs.Prelude.{◌≡◌}
use Rattle.racing_mutator.specs.RacingSeats.{MayCall}
use Rattle.racing_world.specs.Calls.{number_of}
use Rattle.racing_tests.proofs.notes.play.Given as goal

abbrev pub invariant-loop : goal.invariant-loop
invariant-loop g l = MayCall g.P.Plan.rules l.world.row l.seat
    × (number_of l.seat ≡ number_of l.initial.seat)
