use Rattle.std.proofs.Common.{refl}
use Rattle.std.specs.Fmt.{digits}
use Rattle.trace_text.specs.Grammar.{line, trace}
use Rattle.trace_text.proofs.laws.worked_traces.Goals as goal

pub returns-clause-empty : goal.returns-clause-empty
unfolding line trace digits
returns-clause-empty c = refl

pub returns-clause-blank_first : goal.returns-clause-blank_first
unfolding line trace digits
returns-clause-blank_first c = refl

pub returns-clause-alone : goal.returns-clause-alone
unfolding line trace digits
returns-clause-alone c = refl

pub returns-clause-read : goal.returns-clause-read
unfolding line trace digits
returns-clause-read c = refl

pub returns-clause-blank : goal.returns-clause-blank
unfolding line trace digits
returns-clause-blank c = refl

pub returns-clause-zeros : goal.returns-clause-zeros
unfolding line trace digits
returns-clause-zeros c = refl

pub returns-clause-count : goal.returns-clause-count
unfolding line trace digits
returns-clause-count c = refl

pub returns-clause-spaces : goal.returns-clause-spaces
unfolding line trace digits
returns-clause-spaces c = refl

pub returns-clause-left : goal.returns-clause-left
unfolding line trace digits
returns-clause-left c = refl

pub returns-clause-great : goal.returns-clause-great
unfolding line trace digits
returns-clause-great c = refl

pub returns-clause-text : goal.returns-clause-text
unfolding line trace digits
returns-clause-text c = refl
