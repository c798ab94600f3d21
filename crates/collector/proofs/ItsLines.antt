-- Lines of an object, once they are marked, stay so.
use Rattle.std.proofs.Common.{List, ◌++◌, ℕ}
use Rattle.trace_core.specs.Setups.{Setup}
use Rattle.trace_core.specs.Machine.{Event}
use Rattle.trace_core.specs.Traces.{IsTracing}
use Rattle.trace_core.proofs.LineBits.{line-stays}
use Rattle.collector.specs.Serving.{HasItsLines}
use Rattle.plain_tracer.proofs.TracedObjects.{target-grows}

pub lines-grow : (p : Setup) (es ds : List Event) → IsTracing p (es ++ ds) → (x : ℕ) → HasItsLines p es x → HasItsLines p (es ++ ds) x
lines-grow p es ds trace x had = record {
  target = had.target;
  known = target-grows p es ds trace x had.target had.known;
  marked = λ n few touches. line-stays p es ds trace n few (had.marked n few touches);
}
