use Rattle.std.specs.Prelude.{◌≡◌, ◌<◌}
use Rattle.racing_mutator.specs.RacingSeats.{MayCall}
use Rattle.racing_world.specs.Calls.{number_of}
use Rattle.racing_tests.proofs.orders.run_commands.Given as goal

abbrev pub invariant-loop-command : goal.invariant-loop-command
invariant-loop-command g l = (l.at < 12) × MayCall g.P.Plan.rules l.world.row l.seat
    × (number_of l.seat ≡ number_of l.initial.seat)
