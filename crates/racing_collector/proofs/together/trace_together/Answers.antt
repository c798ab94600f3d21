use Rattle.std.proofs.Common.{◌∙◌, sym, ap}
use Rattle.std.proofs.lemmas.List.Elements.{All-weaker}
use Rattle.object_model.specs.Heaps.{heap_state}
use Rattle.trace_core.specs.declared.run.TraceRun.{TraceRun}
use Rattle.trace_table.specs.Seats.{IsGlobalRoot}
use Rattle.racing_collector.specs.declared.racing.Racing.{Racing}
use Rattle.racing_collector.proofs.FirstPackets.{first-takes, hold-all, seats-now, workers-now, setup-now, roots-now}
use Rattle.racing_collector.proofs.together.trace_together.Goals as goal

pub race-requires-clause-seats : goal.race-requires-clause-seats
race-requires-clause-seats g c κs within = let t = c.in_ok-table.table in
    seats-now t c.take_globals.new.self c.take_logged.new.self c.take_globals.ensures.same c.take_logged.ensures.same c.args.workers c.in_ok-table.seats.items
    (workers-now t c.take_globals.new.self c.take_logged.new.self c.take_globals.ensures.same c.take_logged.ensures.same (heap_state c.args.heap) c.args.run c.args.workers c.in_ok-table.ensures.setup) c.in_ok-table.ensures.seats

pub race-requires-clause-roots : goal.race-requires-clause-roots
race-requires-clause-roots g c κs within = roots-now c.in_ok-table.table c.take_globals.new.self c.take_logged.new.self c.take_globals.ensures.same c.take_logged.ensures.same (heap_state c.args.heap) c.args.run c.args.workers
    c.in_ok-table.ensures.setup c.args.heap.lawful.but_lines c.requires.may.nursery c.args.roots.items c.requires.held

pub race-requires-clause-takes : goal.race-requires-clause-takes
race-requires-clause-takes g c κs within =
    let r : Racing = record { table = c.take_logged.new.self; roots = c.args.roots } in
    first-takes r c.len.result c.in_ok-globals.globals.items c.in_ok-logged.logged.items c.in_ok-first.first.items (c.len.ensures ∙ c.args.roots.ok.0) c.in_ok-first.ensures.items c.in_ok-first.ensures.packets.bucket
    (All-weaker (IsGlobalRoot c.take_globals.new.self) (IsGlobalRoot c.take_logged.new.self) c.take_logged.ensures.same.roots c.in_ok-globals.globals.items c.in_ok-globals.ensures.rights) c.in_ok-logged.ensures.rights

pub finish-requires-clause-raced : goal.finish-requires-clause-raced
finish-requires-clause-raced g c =
    let r : Racing = record { table = c.take_logged.new.self; roots = c.args.roots } in
    let new = c.in_ok-table.ensures.taken in (
      c.in_ok-first.first.items,
      hold-all r c.len.result c.in_ok-globals.globals.items c.in_ok-logged.logged.items c.in_ok-first.first.items (c.len.ensures ∙ c.args.roots.ok.0) c.in_ok-first.ensures.items
          c.take_logged.ensures.left (c.take_logged.ensures.globals ∙ c.in_ok-globals.ensures.taken) c.in_ok-logged.ensures.taken
          (c.in_ok-globals.ensures.first new.0)
          (c.in_ok-logged.ensures.first (c.take_globals.ensures.logged ∙ new.1) ∙ ap (λ (u : TraceRun). u.logged.items) (sym c.take_logged.ensures.same.run)),
      c.in_ok-raced.ensures,
    )

pub returns-clause-traces : goal.returns-clause-traces
returns-clause-traces g c = c.finish.ensures.traces (heap_state c.args.heap) c.args.run c.args.workers c.args.heap.lawful.but_lines c.requires.may
    (setup-now c.in_ok-table.table c.take_globals.new.self c.take_logged.new.self c.take_globals.ensures.same c.take_logged.ensures.same (heap_state c.args.heap) c.args.run c.args.workers c.in_ok-table.ensures.setup)
    (c.take_logged.ensures.same.run ∙ c.take_globals.ensures.same.run ∙ c.in_ok-table.ensures.run)
