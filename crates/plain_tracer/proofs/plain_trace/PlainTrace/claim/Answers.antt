use Rattle.trace_core.specs.Machine.{ByRoot}
use Rattle.trace_core.proofs.Clauses.{old-target}
use Rattle.plain_tracer.proofs.AskedTargets.{claims-root}
use Rattle.plain_tracer.proofs.plain_trace.PlainTrace.claim.Goals as goal

pub returns-clause-claims : goal.returns-clause-claims
returns-clause-claims c = λ p es v tracks there. claims-root p es v c.args.self.now c.claim_object.new.self c.args.x c.claim_object.result (old-target p es tracks.trace c.args.x)
    (c.claim_object.ensures.claims p es v ByRoot tracks there tt)
