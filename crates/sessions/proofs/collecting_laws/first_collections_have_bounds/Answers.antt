use Rattle.std.proofs.Common.{refl}
use Rattle.sessions.proofs.collecting_laws.first_collections_have_bounds.Goals as goal

pub returns-clause-plans : goal.returns-clause-plans
returns-clause-plans c = refl

pub returns-clause-full_made : goal.returns-clause-full_made
returns-clause-full_made c = refl

pub returns-clause-lines : goal.returns-clause-lines
returns-clause-lines c = refl

pub returns-clause-two : goal.returns-clause-two
returns-clause-two c = refl

pub returns-clause-less : goal.returns-clause-less
returns-clause-less c = refl

pub returns-clause-counted : goal.returns-clause-counted
returns-clause-counted c = refl

pub returns-clause-large : goal.returns-clause-large
returns-clause-large c = refl

pub returns-clause-not_counted : goal.returns-clause-not_counted
returns-clause-not_counted c = refl
