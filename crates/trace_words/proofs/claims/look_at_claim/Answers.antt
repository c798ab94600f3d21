use Rattle.trace_words.proofs.ClaimSteps.{look-at-claim}
use Rattle.trace_words.proofs.claims.look_at_claim.Goals as goal

pub load-requires : goal.load-requires
load-requires g c = (c.requires.own.0, c.requires.own.1, rw (c.requires.about.0, c.requires.about.1) (look-at-claim g.C.About.setup _ _ _ g.C.About.object c.requires.live c.requires.held))
