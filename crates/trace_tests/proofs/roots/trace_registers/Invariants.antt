use Rattle.std.proofs.Common.{List}
use Rattle.object_model.specs.Lawful.{AreRoots}
use Rattle.trace_core.specs.Setups.{Setup}
use Rattle.trace_core.specs.Machine.{Event}
use Rattle.trace_core.specs.Views.{View}
use Rattle.plain_tracer.specs.Tracers.{Tracks}
use Rattle.trace_tests.specs.Tokens.{AreGrey, TracerGoesOn}
use Rattle.trace_tests.proofs.roots.trace_registers.Given as goal

abbrev pub invariant-loop-register : goal.invariant-loop-register
invariant-loop-register l = (p : Setup) (es : List Event) (v : View) → Tracks p es l.fn.tracer v
    → AreGrey p v l.fn.stack.items → AreRoots p.before l.fn.registers → TracerGoesOn p v l.tracer l.stack.items
