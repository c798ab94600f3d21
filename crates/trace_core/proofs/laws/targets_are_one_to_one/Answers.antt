use Rattle.trace_core.proofs.Clauses.{one-to-one}
use Rattle.trace_core.proofs.laws.targets_are_one_to_one.Goals as goal

pub returns : goal.returns
returns c = one-to-one
