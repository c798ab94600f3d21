use Rattle.plain_world.specs.Calls.{IsOpen}
use Rattle.std.specs.Prelude.{◌≡◌}
use Rattle.racing_mutator.specs.RacingSeats.{MayCall}
use Rattle.racing_world.specs.Calls.{number_of}
use Rattle.racing_tests.proofs.twins.check_replies.Given as goal

abbrev pub invariant-loop-command : goal.invariant-loop-command
invariant-loop-command g l = IsOpen g.P.Plan.rules l.plain × MayCall g.P.Plan.rules l.world.row l.seat
    × (number_of l.seat ≡ number_of l.initial.seat)
