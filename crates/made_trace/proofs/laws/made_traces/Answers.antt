use Rattle.std.proofs.Common.{refl}
use Rattle.stored_commands.specs.Made.{made_trace}
use Rattle.made_trace.proofs.laws.made_traces.Goals as goal

pub returns-clause-first : goal.returns-clause-first
unfolding made_trace
returns-clause-first c = refl

pub returns-clause-rest : goal.returns-clause-rest
unfolding made_trace
returns-clause-rest c = refl

pub returns-clause-rows : goal.returns-clause-rows
unfolding made_trace
returns-clause-rows c = refl

pub returns-clause-more : goal.returns-clause-more
unfolding made_trace
returns-clause-more c = refl

pub returns-clause-later : goal.returns-clause-later
returns-clause-later c = λ x. (refl, refl, refl, refl, refl)

pub returns-clause-between : goal.returns-clause-between
returns-clause-between c = λ x. refl
