use Rattle.sessions.proofs.EpochParts as parts
use Rattle.sessions.proofs.epoch_laws.needs_exhaust_the_allowance.Goals as goal

pub returns-clause-fewer : goal.returns-clause-fewer
returns-clause-fewer c = parts.exhausts

pub returns-clause-alone : goal.returns-clause-alone
returns-clause-alone c = parts.all-taken

pub returns-clause-empty : goal.returns-clause-empty
returns-clause-empty c = parts.empty-part
