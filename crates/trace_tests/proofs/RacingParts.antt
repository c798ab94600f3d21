-- What workers of a racing trace begin with, after the tokens of globals and of logged objects are taken.
use Rattle.std.proofs.Common.{◌≡◌, ℕ, List, All, sym, ◌∙◌, subst}
use Rattle.std.proofs.lemmas.List.Elements.{All-weaker}
use Rattle.object_model.specs.Objects.{HeapState}
use Rattle.object_model.specs.Lawful.{IsLawfulButLines, AreRoots}
use Rattle.trace_core.specs.Setups.{Setup}
use Rattle.trace_core.specs.Runs.{setup_of}
use Rattle.trace_core.specs.declared.run.TraceRun.{TraceRun}
use Rattle.trace_core.proofs.Begun.{HasList}
use Rattle.trace_words.specs.Steps.{IsDone}
use Rattle.trace_table.specs.declared.table.TraceTable.{TraceTable}
use Rattle.trace_table.specs.declared.table.WorkerSeat.{WorkerSeat}
use Rattle.trace_table.specs.declared.tokens.GlobalRoot.{GlobalRoot}
use Rattle.trace_table.specs.declared.tokens.Grey.{Grey}
use Rattle.trace_table.specs.Seats.{IsTable, IsSeat, IsGrey, IsGlobalRoot, setup_at}
use Rattle.trace_table.specs.Ends.{SameTrace}
use Rattle.trace_tests.specs.Parts.{HasPart}
use Rattle.trace_tests.proofs.TraceStarts.{roots-begin}

-- t as it began, u when the tokens of globals were taken, and w when those of logged objects were
module _ (t u w : TraceTable) (first : SameTrace t u) (second : SameTrace u w) where
  pub part-of : (s : WorkerSeat) (globals : List GlobalRoot) (stack : List Grey) → IsTable w → IsSeat t s → ((p : Setup) → IsDone p s.seat.me.0) → All (IsGlobalRoot u) globals → All (IsGrey w) stack → HasPart w s globals stack
  part-of s globals stack table seat done roots tokens = record {
    table = table;
    seat = second.seats s (first.seats s seat);
    done = done (setup_at w);
    roots = All-weaker (IsGlobalRoot u) (IsGlobalRoot w) second.roots globals roots;
    tokens = tokens;
  }

  -- registers are roots of the trace
  pub roots-now : (s : HeapState) (run : TraceRun) (k : ℕ) → setup_at t ≡ setup_of s run k → IsLawfulButLines s → HasList s run → (registers now : List ℕ) → now ≡ registers → AreRoots s registers
      → AreRoots (setup_at w).before now
  roots-now s run k is lawful lists registers now same roots = subst (λ (p : Setup). AreRoots p.before now) (sym (second.setup ∙ first.setup ∙ is))
      (roots-begin s lawful run lists registers now same roots)
