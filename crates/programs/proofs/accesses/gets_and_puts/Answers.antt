use Rattle.programs.proofs.AccessLemmas as accesses
use Rattle.programs.proofs.accesses.gets_and_puts.Goals as goal

pub returns-clause-get : goal.returns-clause-get
returns-clause-get c = accesses.get

pub returns-clause-got : goal.returns-clause-got
returns-clause-got c = accesses.got

pub returns-clause-put : goal.returns-clause-put
returns-clause-put c = accesses.put

pub returns-clause-stored : goal.returns-clause-stored
returns-clause-stored c = accesses.field-stored

pub returns-clause-get_after_put : goal.returns-clause-get_after_put
returns-clause-get_after_put c = accesses.get-after-put
