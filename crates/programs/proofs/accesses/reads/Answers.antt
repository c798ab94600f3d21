use Rattle.std.proofs.Common.{ap}
use Rattle.programs.proofs.AccessLemmas as accesses
use Rattle.programs.proofs.accesses.reads.Goals as goal

pub returns-clause-number : goal.returns-clause-number
returns-clause-number c = accesses.read

pub returns-clause-replied : goal.returns-clause-replied
returns-clause-replied c = accesses.replied

pub returns-clause-same : goal.returns-clause-same
returns-clause-same c = accesses.read-same

pub returns-clause-nil : goal.returns-clause-nil
returns-clause-nil c h m s j is = ap (λ o. o.0) (accesses.read-nil h m s j is)
