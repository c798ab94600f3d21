use Rattle.plain_world.specs.Calls.{IsOpen}
use Rattle.world_tests.proofs.barrier_tests.call_at_random.Given as goal

abbrev pub invariant-loop : goal.invariant-loop
invariant-loop g l = IsOpen g.P.Plan.rules l.world
