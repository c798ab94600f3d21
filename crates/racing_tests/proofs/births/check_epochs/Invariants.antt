use Rattle.std.specs.Prelude.{◌≡◌, All, map}
use Rattle.object_model.specs.Graphs.{numbers_of}
use Rattle.racing_mutator.specs.RacingSeats.{MayCall}
use Rattle.racing_world.specs.Calls.{epoch_of_world, number_of}
use Rattle.racing_tests.specs.Beginnings.{BeginsIdeal}
use Rattle.racing_tests.proofs.births.check_epochs.Given as goal

abbrev pub invariant-loop : goal.invariant-loop
invariant-loop g l = All (MayCall g.P.Plan.rules l.world.row) l.seats.items
    × (map number_of l.seats.items ≡ numbers_of (epoch_of_world g.P.Plan.rules l.world).mutators)
    × BeginsIdeal (epoch_of_world g.P.Plan.rules l.world)
