use Rattle.trace_core.proofs.Clauses.{unlogs-from, unlogs-kept, unlogs-done, pins}
use Rattle.trace_core.proofs.laws.bits_of_objects_are_set.Goals as goal

pub returns-clause-from : goal.returns-clause-from
returns-clause-from c = unlogs-from

pub returns-clause-kept : goal.returns-clause-kept
returns-clause-kept c = unlogs-kept

pub returns-clause-done : goal.returns-clause-done
returns-clause-done c = unlogs-done

pub returns-clause-pins : goal.returns-clause-pins
returns-clause-pins c = pins
