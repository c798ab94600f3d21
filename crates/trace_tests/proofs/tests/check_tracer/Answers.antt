use Rattle.std.proofs.Common.{[]}
use Rattle.object_model.specs.Heaps.{heap_state}
use Rattle.trace_core.specs.Setups.{Setup}
use Rattle.trace_core.specs.Views.{View, first_view}
use Rattle.trace_core.specs.Runs.{setup_of}
use Rattle.trace_tests.proofs.tests.check_tracer.Goals as goal

pub check_blocks-requires-clause-tracing : goal.check_blocks-requires-clause-tracing
check_blocks-requires-clause-tracing g c =
    let p : Setup = setup_of (heap_state c.in_ok-built.built.heap) c.in_ok-run.run' 1 in
    let v : View = first_view c.in_ok-run.run' in
    record {
      setup = p;
      events = [];
      view = v;
      tracks = c.take_globals-2.ensures.same p [] v (c.take_globals.ensures.same p [] v c.in_ok-tracer.ensures.tracks);
      right = tt;
    }
