use Rattle.trace_words.proofs.Rooms.{claim-moved}
use Rattle.trace_words.proofs.claims.claim_and_move.Goals as goal

pub compare_exchange-requires : goal.compare_exchange-requires
compare_exchange-requires g c = (c.requires.own.0, c.requires.own.1, rw (c.requires.about.0, c.requires.about.1, c.requires.about.2) (claim-moved g.C.About.setup _ _ _ g.C.About.object g.C.About.cause c.args.old c.requires.may c.requires.room))
