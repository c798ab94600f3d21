use Rattle.std.proofs.Common.{refl}
use Rattle.trace_text.specs.Grammar.{line}
use Rattle.trace_text.proofs.laws.worked_limits.Goals as goal

pub returns-clause-last : goal.returns-clause-last
unfolding line
returns-clause-last c = refl

pub returns-clause-too_many : goal.returns-clause-too_many
unfolding line
returns-clause-too_many c = refl

pub returns-clause-bad_before : goal.returns-clause-bad_before
unfolding line
returns-clause-bad_before c = refl
