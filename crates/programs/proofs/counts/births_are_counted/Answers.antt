use Rattle.programs.proofs.CountLemmas as lemmas
use Rattle.programs.proofs.counts.births_are_counted.Goals as goal

pub returns-clause-new : goal.returns-clause-new
returns-clause-new c = lemmas.births-more

pub returns-clause-rest : goal.returns-clause-rest
returns-clause-rest c = lemmas.births-rest
