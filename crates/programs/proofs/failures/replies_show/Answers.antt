use Rattle.programs.proofs.FailureLemmas as lemmas
use Rattle.programs.proofs.failures.replies_show.Goals as goal

pub returns-clause-write : goal.returns-clause-write
returns-clause-write c = lemmas.write-done

pub returns-clause-add : goal.returns-clause-add
returns-clause-add c = lemmas.add-num

pub returns-clause-swap : goal.returns-clause-swap
returns-clause-swap c = lemmas.swap-yes

pub returns-clause-not_swapped : goal.returns-clause-not_swapped
returns-clause-not_swapped c = lemmas.swap-not

pub returns-clause-nil : goal.returns-clause-nil
returns-clause-nil c = lemmas.get-nil

pub returns-clause-got : goal.returns-clause-got
returns-clause-got c = lemmas.get-ref

pub returns-clause-put : goal.returns-clause-put
returns-clause-put c = lemmas.put-done
