use Rattle.trace_core.proofs.Releasable.{releasable}
use Rattle.trace_core.proofs.laws.finished_traces_may_be_released.Goals as goal

pub returns : goal.returns
returns c = releasable
