use Rattle.std.proofs.Common.{refl}
use Rattle.sessions.proofs.fitting_laws.counts_of_worked_heaps.Goals as goal

pub returns-clause-mixed : goal.returns-clause-mixed
returns-clause-mixed c = refl

pub returns-clause-totals : goal.returns-clause-totals
returns-clause-totals c = refl

pub returns-clause-used : goal.returns-clause-used
returns-clause-used c = refl

pub returns-clause-full : goal.returns-clause-full
returns-clause-full c = refl

pub returns-clause-nothing : goal.returns-clause-nothing
returns-clause-nothing c = refl

pub returns-clause-copies : goal.returns-clause-copies
returns-clause-copies c = refl

pub returns-clause-headroom : goal.returns-clause-headroom
returns-clause-headroom c = refl
