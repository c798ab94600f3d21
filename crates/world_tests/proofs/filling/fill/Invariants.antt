use Rattle.plain_world.specs.Calls.{IsOpen}
use Rattle.world_tests.proofs.filling.fill.Given as goal

abbrev pub invariant-loop-turn : goal.invariant-loop-turn
invariant-loop-turn g l = IsOpen g.P.Plan.rules l.world
