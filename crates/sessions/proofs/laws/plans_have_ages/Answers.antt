use Rattle.sessions.proofs.Nurseries.{arrives-kept, old-kept, kept-arrives}
use Rattle.sessions.proofs.laws.plans_have_ages.Goals as goal

pub returns-clause-reached : goal.returns-clause-reached
returns-clause-reached c = arrives-kept

pub returns-clause-kept : goal.returns-clause-kept
returns-clause-kept c = old-kept

pub returns-clause-nothing_else : goal.returns-clause-nothing_else
returns-clause-nothing_else c = kept-arrives
