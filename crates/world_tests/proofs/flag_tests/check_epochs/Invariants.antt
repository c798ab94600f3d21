use Rattle.plain_world.specs.Calls.{IsOpen}
use Rattle.world_tests.proofs.flag_tests.check_epochs.Given as goal

abbrev pub invariant-loop : goal.invariant-loop
invariant-loop g l = IsOpen g.P.Plan.rules l.world

abbrev pub invariant-loop-commands : goal.invariant-loop-commands
invariant-loop-commands g l = IsOpen g.P.Plan.rules l.world
