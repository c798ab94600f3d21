use Rattle.programs.proofs.AccessLemmas as accesses
use Rattle.programs.proofs.accesses.numbers_change.Goals as goal

pub returns-clause-write : goal.returns-clause-write
returns-clause-write c = accesses.write

pub returns-clause-written : goal.returns-clause-written
returns-clause-written c = accesses.written

pub returns-clause-read_after_write : goal.returns-clause-read_after_write
returns-clause-read_after_write c = accesses.read-after-write

pub returns-clause-add : goal.returns-clause-add
returns-clause-add c = accesses.add

pub returns-clause-added : goal.returns-clause-added
returns-clause-added c = accesses.added

pub returns-clause-swap : goal.returns-clause-swap
returns-clause-swap c = accesses.swap

pub returns-clause-swapped : goal.returns-clause-swapped
returns-clause-swapped c = accesses.swapped

pub returns-clause-kept : goal.returns-clause-kept
returns-clause-kept c = accesses.kept
