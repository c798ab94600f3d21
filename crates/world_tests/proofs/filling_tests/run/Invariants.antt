use Rattle.plain_world.specs.Calls.{IsOpen}
use Rattle.world_tests.proofs.filling_tests.run.Given as goal

abbrev pub invariant-loop-most : goal.invariant-loop-most
invariant-loop-most g l = IsOpen g.P.Plan.rules l.world
