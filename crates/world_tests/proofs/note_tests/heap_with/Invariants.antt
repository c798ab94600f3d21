use Rattle.plain_world.specs.Calls.{IsOpen}
use Rattle.world_tests.proofs.note_tests.heap_with.Given as goal

abbrev pub invariant-loop-size : goal.invariant-loop-size
invariant-loop-size g l = IsOpen g.P.Plan.rules l.world
