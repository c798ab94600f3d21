use Rattle.trace_core.proofs.Finished.{preserved}
use Rattle.trace_core.proofs.laws.finished_traces_preserve_the_graph.Goals as goal

pub returns : goal.returns
returns c = preserved
