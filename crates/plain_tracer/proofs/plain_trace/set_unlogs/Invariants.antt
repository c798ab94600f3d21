use Rattle.std.proofs.Common.{◌≡◌, take}
use Rattle.object_model.specs.Objects.{state_of}
use Rattle.trace_core.specs.Runs.{with_unlogs}
use Rattle.plain_tracer.proofs.plain_trace.set_unlogs.Given as goal

abbrev pub invariant-loop-place : goal.invariant-loop-place
invariant-loop-place l = state_of l.row ≡ with_unlogs (state_of l.fn.row) (take l.place l.fn.objects)
