use Rattle.plain_tracer.specs.Tracers.{TracerHolds}
use Rattle.trace_tests.specs.Tokens.{AreGrey}
use Rattle.trace_tests.proofs.tracing.scan_all.Given as goal

abbrev pub invariant-loop-scanned : goal.invariant-loop-scanned
invariant-loop-scanned g l = TracerHolds l.tracer (λ p es v. AreGrey p v l.stack.items)
