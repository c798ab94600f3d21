use Rattle.std.proofs.Common.{◌∙◌, ◌+◌}
use Rattle.std.proofs.lemmas.Bool.{cond-true, cond-false}
use Rattle.forward_word.specs.CollectorWords.{collector_word}
use Rattle.object_model.specs.Objects.{word_at}
use Rattle.trace_core.specs.Setups.{stays_old, collection}
use Rattle.trace_core.proofs.Clauses.{waits, collector, unclaimed, old-target}
use Rattle.trace_core.proofs.laws.objects_wait_to_be_scanned.Goals as goal

pub returns-clause-words : goal.returns-clause-words
returns-clause-words c = waits

pub returns-clause-claimed : goal.returns-clause-claimed
returns-clause-claimed c p es trace x t is young = collector p es trace x t is ∙ cond-false (stays_old p x) (word_at p.before (x + 2)) (collector_word (collection p) t) young

pub returns-clause-unclaimed : goal.returns-clause-unclaimed
returns-clause-unclaimed c = unclaimed

pub returns-clause-old : goal.returns-clause-old
returns-clause-old c p es trace x aged = collector p es trace x x (old-target p es trace x aged) ∙ cond-true (stays_old p x) (word_at p.before (x + 2)) (collector_word (collection p) x) aged
