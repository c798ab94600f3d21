use Rattle.plain_world.specs.Calls.{IsOpen}
use Rattle.racing_tests.proofs.worlds.plain_world.Given as goal

abbrev pub invariant-loop-m : goal.invariant-loop-m
invariant-loop-m g l = IsOpen g.P.Plan.rules l.plain
