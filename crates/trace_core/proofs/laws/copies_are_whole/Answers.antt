use Rattle.trace_core.proofs.Clauses.{copied, whole, starts-from, starts-kept, starts-done}
use Rattle.trace_core.proofs.laws.copies_are_whole.Goals as goal

pub returns-clause-copied : goal.returns-clause-copied
returns-clause-copied c = copied

pub returns-clause-whole : goal.returns-clause-whole
returns-clause-whole c = whole

pub returns-clause-from : goal.returns-clause-from
returns-clause-from c = starts-from

pub returns-clause-kept : goal.returns-clause-kept
returns-clause-kept c = starts-kept

pub returns-clause-done : goal.returns-clause-done
returns-clause-done c = starts-done
