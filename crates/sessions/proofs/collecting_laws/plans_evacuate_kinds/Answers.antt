use Rattle.std.proofs.Common.{refl}
use Rattle.sessions.proofs.collecting_laws.plans_evacuate_kinds.Goals as goal

pub returns-clause-full : goal.returns-clause-full
returns-clause-full c = refl

pub returns-clause-nursery : goal.returns-clause-nursery
returns-clause-nursery c = refl
