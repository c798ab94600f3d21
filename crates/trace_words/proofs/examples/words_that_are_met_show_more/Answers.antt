use Rattle.trace_words.proofs.CrowdedSteps.{meets-block, loses-block, meets-claim, loses-claim, meets-old}
use Rattle.trace_words.proofs.examples.words_that_are_met_show_more.Goals as goal

pub returns-clause-block : goal.returns-clause-block
returns-clause-block c = meets-block

pub returns-clause-lost_block : goal.returns-clause-lost_block
returns-clause-lost_block c = loses-block

pub returns-clause-claim : goal.returns-clause-claim
returns-clause-claim c = meets-claim

pub returns-clause-lost_claim : goal.returns-clause-lost_claim
returns-clause-lost_claim c = loses-claim

pub returns-clause-old : goal.returns-clause-old
returns-clause-old c = meets-old
