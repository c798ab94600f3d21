use Rattle.managed_heap.specs.Stopped.{IsStopped}
use Rattle.session_tests.proofs.stopped_tests.check_kinds.Given as goal

abbrev pub invariant-loop-kind : goal.invariant-loop-kind
invariant-loop-kind g l = IsStopped g.P.Plan.rules l.stopped
