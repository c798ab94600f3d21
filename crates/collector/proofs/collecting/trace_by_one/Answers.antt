use Rattle.collector.specs.declared.worker.TracingStart.{TracingStart}
use Rattle.collector.proofs.WholeNotes.{root-buckets}
use Rattle.collector.proofs.collecting.trace_by_one.Goals as goal

pub run_packets-requires-clause-awaits : goal.run_packets-requires-clause-awaits
run_packets-requires-clause-awaits g c κs within =
    let start : TracingStart = record { heap = c.args.heap; run = c.args.run; roots = c.args.roots } in
    (start, record { awaited = c.in_ok-trace.ensures.awaits; buckets = root-buckets c.in_ok-trace.first.items c.in_ok-trace.ensures.packets })

pub close-requires : goal.close-requires
close-requires g c =
    let start : TracingStart = record { heap = c.args.heap; run = c.args.run; roots = c.args.roots } in (
      start,
      record {
        may = c.requires.may;
        awaited = (c.in_ok-trace-2.ensures start (record { awaited = c.in_ok-trace.ensures.awaits; buckets = root-buckets c.in_ok-trace.first.items c.in_ok-trace.ensures.packets })).awaited;
      },
    )

pub returns : goal.returns
returns g c =
    let start : TracingStart = record { heap = c.args.heap; run = c.args.run; roots = c.args.roots } in
    c.close.ensures start (record {
      may = c.requires.may;
      awaited = (c.in_ok-trace-2.ensures start (record { awaited = c.in_ok-trace.ensures.awaits; buckets = root-buckets c.in_ok-trace.first.items c.in_ok-trace.ensures.packets })).awaited;
    })
