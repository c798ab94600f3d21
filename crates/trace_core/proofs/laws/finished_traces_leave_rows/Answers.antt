use Rattle.trace_core.proofs.Rows.{row}
use Rattle.trace_core.proofs.laws.finished_traces_leave_rows.Goals as goal

pub returns : goal.returns
returns c = row
