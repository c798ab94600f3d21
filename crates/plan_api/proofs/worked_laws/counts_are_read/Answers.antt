use Rattle.std.proofs.Common.{refl}
use Rattle.plan_api.proofs.worked_laws.counts_are_read.Goals as goal

pub returns-clause-counts : goal.returns-clause-counts
returns-clause-counts c = refl

pub returns-clause-reserves : goal.returns-clause-reserves
returns-clause-reserves c = refl
