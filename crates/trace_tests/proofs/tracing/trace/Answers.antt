use Rattle.std.proofs.Common.{[], ap, ◌∙◌}
use Rattle.object_model.specs.Heaps.{heap_state}
use Rattle.trace_core.specs.Views.{first_view}
use Rattle.trace_core.specs.Runs.{setup_of}
use Rattle.trace_core.specs.declared.run.TraceRun.{TraceRun}
use Rattle.trace_tests.proofs.TraceStarts.{logged-grey, holds-logged, all-unset, roots-begin}
use Rattle.trace_tests.proofs.tracing.trace.Goals as goal

pub take_logged-requires : goal.take_logged-requires
take_logged-requires g c =
    let p = setup_of (heap_state c.args.built.heap) c.args.run 1 in
    let v = first_view c.args.run in
    record {
      setup = p;
      events = [];
      view = v;
      tracks = c.take_globals.ensures.same p [] v c.in_ok-tracer.ensures.tracks;
      right = tt;
    }

pub trace_registers-requires : goal.trace_registers-requires
trace_registers-requires g c =
    let heap = c.args.built.heap in
    let run = c.args.run in
    let p = setup_of (heap_state heap) run 1 in
    let v = first_view run in
    let tracks = c.take_globals.ensures.same p [] v c.in_ok-tracer.ensures.tracks in
    let runs = c.take_globals.ensures.run ∙ c.in_ok-tracer.ensures.run in
    record {
      setup = p;
      events = [];
      view = v;
      tracks = c.take_logged.ensures.same p [] v tracks;
      right = (
        logged-grey p run c.take_globals.new.self tracks runs c.in_ok-stack.stack.items
            (c.in_ok-stack.ensures.first (c.take_globals.ensures.logged ∙ c.in_ok-tracer.ensures.logged) ∙ ap (λ (r : TraceRun). r.logged.items) runs)
            (c.in_ok-stack.ensures.rights p [] v tracks (holds-logged p run c.take_globals.new.self tracks runs)),
        roots-begin (heap_state heap) heap.lawful.but_lines run c.requires.nursery c.args.built.registers.items c.deref.result.now
            c.deref.ensures.value c.args.built.roots,
      );
    }

pub trace_globals-requires : goal.trace_globals-requires
trace_globals-requires g c =
    let heap = c.args.built.heap in
    let run = c.args.run in
    let p = setup_of (heap_state heap) run 1 in
    let v = first_view run in
    let tracks = c.take_globals.ensures.same p [] v c.in_ok-tracer.ensures.tracks in
    let runs = c.take_globals.ensures.run ∙ c.in_ok-tracer.ensures.run in
    let goes = c.in_ok-registers.ensures p [] v (c.take_logged.ensures.same p [] v tracks)
    (logged-grey p run c.take_globals.new.self tracks runs c.in_ok-stack.stack.items
    (c.in_ok-stack.ensures.first (c.take_globals.ensures.logged ∙ c.in_ok-tracer.ensures.logged) ∙ ap (λ (r : TraceRun). r.logged.items) runs)
    (c.in_ok-stack.ensures.rights p [] v tracks (holds-logged p run c.take_globals.new.self tracks runs)))
    (roots-begin (heap_state heap) heap.lawful.but_lines run c.requires.nursery c.args.built.registers.items c.deref.result.now
    c.deref.ensures.value c.args.built.roots) in
    record {
      setup = p;
      events = goes.events;
      view = goes.view;
      tracks = goes.tracks;
      right = (goes.grey, all-unset goes.view run c.in_ok-globals.globals.items goes.unset (c.in_ok-globals.ensures.first c.in_ok-tracer.ensures.globals));
    }
