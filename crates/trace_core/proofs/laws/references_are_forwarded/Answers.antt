use Rattle.trace_core.proofs.Law.{sound}
use Rattle.trace_core.proofs.Clauses.{settled, forwarded, scanned-few}
use Rattle.trace_core.proofs.laws.references_are_forwarded.Goals as goal

pub returns-clause-known : goal.returns-clause-known
returns-clause-known c = settled

pub returns-clause-field : goal.returns-clause-field
returns-clause-field c = forwarded

pub returns-clause-fields : goal.returns-clause-fields
returns-clause-fields c = scanned-few

pub returns-clause-global : goal.returns-clause-global
returns-clause-global c p es trace g few = (sound p es trace).sides.globals.value g few

pub returns-clause-set : goal.returns-clause-set
returns-clause-set c p es trace g few is = (sound p es trace).sides.globals.settled g few is
