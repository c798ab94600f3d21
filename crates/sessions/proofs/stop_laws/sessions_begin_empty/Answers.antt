use Rattle.std.proofs.Common.{refl}
use Rattle.sessions.proofs.stop_laws.sessions_begin_empty.Goals as goal

pub returns-clause-numbers : goal.returns-clause-numbers
returns-clause-numbers c rules = refl

pub returns-clause-mutators : goal.returns-clause-mutators
returns-clause-mutators c rules = refl

pub returns-clause-commands : goal.returns-clause-commands
returns-clause-commands c rules = refl

pub returns-clause-state : goal.returns-clause-state
returns-clause-state c t = (refl, refl, refl, refl)
