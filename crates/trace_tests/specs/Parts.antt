-- What a worker of a racing trace begins with.
use Rattle.std.specs.Prelude.{List, All}
use Rattle.trace_words.specs.Steps.{IsDone}
use Rattle.trace_table.specs.Seats.{IsTable, IsSeat, IsGrey, IsGlobalRoot, setup_at}
use Rattle.trace_table.specs.declared.table.TraceTable.{TraceTable}
use Rattle.trace_table.specs.declared.table.WorkerSeat.{WorkerSeat}
use Rattle.trace_table.specs.declared.tokens.GlobalRoot.{GlobalRoot}
use Rattle.trace_table.specs.declared.tokens.Grey.{Grey}

-- the seat has nothing to do, and the tokens are of the same table
pub record HasPart (t : TraceTable) (s : WorkerSeat) (globals : List GlobalRoot) (stack : List Grey)
    : Type 0 where
  pub table : IsTable t
  pub seat : IsSeat t s
  pub done : IsDone (setup_at t) s.seat.me.0
  pub roots : All (IsGlobalRoot t) globals
  pub tokens : All (IsGrey t) stack
