use Rattle.std.specs.Vec.Iter.{into_iter_items}
use Rattle.plain_tracer.specs.Tracers.{TracerHolds}
use Rattle.trace_tests.specs.Tokens.{AreGrey, AreUnset}
use Rattle.trace_tests.proofs.roots.trace_globals.Given as goal

abbrev pub invariant-loop-global : goal.invariant-loop-global
invariant-loop-global l = TracerHolds l.tracer (λ p es v. AreGrey p v l.stack.items × AreUnset v (into_iter_items l.global-iterator))
