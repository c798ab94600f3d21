use Rattle.trace_core.proofs.Finished.{kept-exactly, kept-reachable}
use Rattle.trace_core.proofs.laws.finished_traces_are_precise.Goals as goal

pub returns-clause-kept : goal.returns-clause-kept
returns-clause-kept c = kept-exactly

pub returns-clause-full : goal.returns-clause-full
returns-clause-full c = kept-reachable
