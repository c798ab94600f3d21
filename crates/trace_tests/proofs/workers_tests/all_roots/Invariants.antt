use Rattle.plain_world.specs.Calls.{IsOpen}
use Rattle.trace_tests.proofs.workers_tests.all_roots.Given as goal

abbrev pub invariant-loop-object : goal.invariant-loop-object
invariant-loop-object g l = (IsOpen g.P.Plan.rules l.world)
