use Rattle.std.proofs.Common.{refl, ap}
use Rattle.sessions.specs.Sessions.{Moment}
use Rattle.sessions.proofs.StopSteps as steps
use Rattle.sessions.proofs.stop_laws.meets_are_replied.Goals as goal

pub returns-clause-waiting : goal.returns-clause-waiting
returns-clause-waiting c = refl

pub returns-clause-at_meet : goal.returns-clause-at_meet
returns-clause-at_meet c = refl

pub returns-clause-held_up : goal.returns-clause-held_up
returns-clause-held_up c = steps.meets-held_up

pub returns-clause-both : goal.returns-clause-both
returns-clause-both c rules now replies = ap (λ (x : Moment). x.done) replies.rest

pub returns-clause-ended : goal.returns-clause-ended
returns-clause-ended c rules now replies = ap (λ (x : Moment). x.done) replies.rest
