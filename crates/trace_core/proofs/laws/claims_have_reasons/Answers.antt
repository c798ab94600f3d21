use Rattle.object_model.proofs.Marks as marks
use Rattle.trace_core.proofs.Law.{sound}
use Rattle.trace_core.proofs.Clauses.{held-of}
use Rattle.trace_core.proofs.laws.claims_have_reasons.Goals as goal

pub returns-clause-reached : goal.returns-clause-reached
returns-clause-reached c p es trace = (sound p es trace).reasons.reached

pub returns-clause-roots : goal.returns-clause-roots
returns-clause-roots c p es trace = (sound p es trace).reasons.roots

pub returns-clause-held : goal.returns-clause-held
returns-clause-held c p es trace x t is = marks.held p.before x (held-of p es trace x t is)
