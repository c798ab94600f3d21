use Rattle.plain_world.specs.Calls.{IsOpen}
use Rattle.world_tests.proofs.flag_tests.call_all.Given as goal

abbrev pub invariant-loop-command : goal.invariant-loop-command
invariant-loop-command g l = IsOpen g.P.Plan.rules l.world
