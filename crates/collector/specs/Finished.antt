-- A finished tracing, by any number of workers.
use Rattle.std.specs.Prelude.{◌≡◌, ℕ, List}
use Rattle.object_model.specs.Objects.{HeapState}
use Rattle.trace_core.specs.Traces.{stage_of}
use Rattle.trace_core.specs.Outcomes.{image}
use Rattle.trace_core.specs.Runs.{MayRun, setup_of}
use Rattle.trace_core.specs.declared.run.TraceRun.{TraceRun}
use Rattle.racing_collector.specs.Together.{TracesAll}
use Rattle.racing_collector.specs.declared.together.TracedTogether.{TracedTogether}
use Rattle.collector.specs.Collected.{FillsInTurn}

-- w workers traced this heap in this run, from these roots, and left the row, the targets of the
-- roots and counts of what they claimed. One worker filled blocks in turn.
pub record IsFinishedTrace (s : HeapState) (run : TraceRun) (w : ℕ) (roots : List ℕ)
    (t : TracedTogether) : Type 0 where
  pub may : MayRun s run
  pub same : t.traced.run ≡ run
  pub traces : TracesAll s run w roots t
  pub turns : w ≡ 1 → FillsInTurn s (image (stage_of (setup_of s run w) traces.events))
