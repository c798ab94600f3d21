use Rattle.plain_world.specs.Calls.{IsOpen}
use Rattle.world_tests.proofs.barrier_tests.run.Given as goal

abbrev pub invariant-loop-epoch : goal.invariant-loop-epoch
invariant-loop-epoch g l = IsOpen g.P.Plan.rules l.world
