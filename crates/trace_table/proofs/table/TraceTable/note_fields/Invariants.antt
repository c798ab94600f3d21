use Rattle.std.proofs.Common.{◌≡◌, length}
use Rattle.trace_table.proofs.table.TraceTable.note_fields.Given as goal

abbrev pub invariant-loop-k : goal.invariant-loop-k
invariant-loop-k l = length l.ahead ≡ 512
