use Rattle.std.proofs.Common.{◌≡◌}
use Rattle.heap_layout.specs.declared.block.Kind.TheVariants as kinds
use Rattle.plain_tracer.specs.Tracers.{TracerHolds}
use Rattle.trace_tests.proofs.tests.check_blocks.Given as goal

abbrev pub invariant-loop-block : goal.invariant-loop-block
invariant-loop-block g l = (TracerHolds l.tracer (λ p es v. Unit {0})) × (l.tracer.run.copy_kind ≡ kinds.Bump)
