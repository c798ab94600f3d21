use Rattle.std.proofs.Common.{refl}
use Rattle.trace_text.specs.Grammar.{line}
use Rattle.trace_text.proofs.laws.worked_lines.Goals as goal

pub returns-clause-swap : goal.returns-clause-swap
unfolding line
returns-clause-swap c = refl

pub returns-clause-share : goal.returns-clause-share
unfolding line
returns-clause-share c = refl

pub returns-clause-put : goal.returns-clause-put
unfolding line
returns-clause-put c = refl

pub returns-clause-gc : goal.returns-clause-gc
unfolding line
returns-clause-gc c = refl

pub returns-clause-no_argument : goal.returns-clause-no_argument
unfolding line
returns-clause-no_argument c = refl

pub returns-clause-global : goal.returns-clause-global
unfolding line
returns-clause-global c = refl

pub returns-clause-letter : goal.returns-clause-letter
unfolding line
returns-clause-letter c = refl

pub returns-clause-capital : goal.returns-clause-capital
unfolding line
returns-clause-capital c = refl
