use Rattle.plain_world.specs.Calls.{IsOpen}
use Rattle.trace_tests.proofs.heaps.build_under.Given as goal

abbrev pub invariant-loop-command : goal.invariant-loop-command
invariant-loop-command g l = (IsOpen g.P.Plan.rules l.world)
