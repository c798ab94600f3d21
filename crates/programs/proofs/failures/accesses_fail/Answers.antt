use Rattle.programs.proofs.FailureLemmas as lemmas
use Rattle.programs.proofs.failures.accesses_fail.Goals as goal

pub returns-clause-read : goal.returns-clause-read
returns-clause-read c = lemmas.read-fails

pub returns-clause-write : goal.returns-clause-write
returns-clause-write c = lemmas.write-fails

pub returns-clause-add : goal.returns-clause-add
returns-clause-add c = lemmas.add-fails

pub returns-clause-swap : goal.returns-clause-swap
returns-clause-swap c = lemmas.swap-fails

pub returns-clause-get : goal.returns-clause-get
returns-clause-get c = lemmas.get-fails

pub returns-clause-put : goal.returns-clause-put
returns-clause-put c = lemmas.put-fails

pub returns-clause-pin : goal.returns-clause-pin
returns-clause-pin c = lemmas.pin-nil

pub returns-clause-unpin : goal.returns-clause-unpin
returns-clause-unpin c = lemmas.unpin-nil
