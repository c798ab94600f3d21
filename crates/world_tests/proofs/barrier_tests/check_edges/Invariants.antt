use Rattle.plain_world.specs.Calls.{IsOpen}
use Rattle.world_tests.proofs.barrier_tests.check_edges.Given as goal

abbrev pub invariant-loop-logs : goal.invariant-loop-logs
invariant-loop-logs g l = IsOpen g.P.Plan.rules l.world
