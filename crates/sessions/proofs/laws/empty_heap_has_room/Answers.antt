use Rattle.sessions.proofs.EmptyHeapFits as beginning
use Rattle.sessions.proofs.laws.empty_heap_has_room.Goals as goal

pub returns-clause-fits : goal.returns-clause-fits
returns-clause-fits c p b size least small = beginning.small-fits b least p size small

pub returns-clause-served : goal.returns-clause-served
returns-clause-served c = beginning.served-at-once
