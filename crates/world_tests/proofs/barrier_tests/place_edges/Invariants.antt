use Rattle.plain_world.specs.Calls.{IsOpen}
use Rattle.world_tests.proofs.barrier_tests.place_edges.Given as goal

abbrev pub invariant-loop-d : goal.invariant-loop-d
invariant-loop-d g l = IsOpen g.P.Plan.rules l.world
