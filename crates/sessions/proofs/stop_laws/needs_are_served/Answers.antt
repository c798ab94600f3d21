use Rattle.std.proofs.Common.{refl}
use Rattle.sessions.proofs.StopSteps as steps
use Rattle.sessions.proofs.stop_laws.needs_are_served.Goals as goal

pub returns-clause-at_once : goal.returns-clause-at_once
returns-clause-at_once c = steps.serves-fitting

pub returns-clause-full_first : goal.returns-clause-full_first
returns-clause-full_first c = steps.serves-full_first

pub returns-clause-nursery_first : goal.returns-clause-nursery_first
returns-clause-nursery_first c = steps.serves-nursery_first

pub returns-clause-one_entry : goal.returns-clause-one_entry
returns-clause-one_entry c = steps.serves-one

pub returns-clause-after_nursery : goal.returns-clause-after_nursery
returns-clause-after_nursery c = steps.way-nursery

pub returns-clause-after_full : goal.returns-clause-after_full
returns-clause-after_full c = steps.way-full

pub returns-clause-after_both : goal.returns-clause-after_both
returns-clause-after_both c = steps.way-both

pub returns-clause-refused : goal.returns-clause-refused
returns-clause-refused c = refl

pub returns-clause-order : goal.returns-clause-order
returns-clause-order c = steps.needs-order

pub returns-clause-next : goal.returns-clause-next
returns-clause-next c = steps.needs-first
