use Rattle.trace_words.proofs.RuleSteps.{known-is}
use Rattle.trace_words.proofs.laws.shares_show_the_machine.Goals as goal

pub returns-clause-words : goal.returns-clause-words
returns-clause-words c = λ p s keeps. keeps.words

pub returns-clause-made : goal.returns-clause-made
returns-clause-made c = λ p s keeps test. keeps.made test

pub returns-clause-known : goal.returns-clause-known
returns-clause-known c = λ p s keeps j v at x t has. known-is p s keeps j v at x t has
