use Rattle.std.proofs.Common.{refl, sym, subst, ap}
use Rattle.object_model.specs.Heaps.{heap_state}
use Rattle.sessions.specs.Grants.{BlockCounts}
use Rattle.trace_core.specs.Runs.{IsRunOf, setup_of}
use Rattle.collector.proofs.FinishedTraces as whole
use Rattle.collector.proofs.collecting.finish.Goals as goal

pub release_by-heap-requires : goal.release_by-heap-requires
release_by-heap-requires g c =
    let start = c.requires.0 in let w = c.requires.1 in let done = c.requires.2 in let t = c.args.trace in (
      setup_of (heap_state start.heap) start.run w,
      done.traces.events,
      done.traces.trace,
      done.traces.finished,
      done.traces.row,
      subst (IsRunOf (setup_of (heap_state start.heap) start.run w)) (sym done.same) done.traces.run_is,
      c.known_after-known.ensures.known g.P.Plan.rules t.traced.run _ done.traces.events (whole.traced-under start w t done g.P.Plan.rules c.requires.3) refl
          (whole.marks-lines start w t done) (whole.marks-claimed start w t done),
    )

pub returns : goal.returns
returns g c start w done shown = whole.finishes g.P.Plan.plan g.P.Plan.rules g.met.P.Plan.rules_are_of_plan start w c.args.trace done shown
    c.release_by-heap.result c.release_by-heap.ensures.0 c.release_by-heap.ensures.1 c.release_by-heap.ensures.2 _ refl refl refl c.saturating_sub.ensures refl (ap (λ (n : BlockCounts). n.free) c.block_counts-free_blocks.ensures)
