use Rattle.trace_words.proofs.SeatSteps.{splits-global}
use Rattle.trace_words.proofs.seats.give_global.Goals as goal

pub split-requires : goal.split-requires
split-requires g c = (c.requires.own.0, c.requires.own.1, rw c.requires.about (splits-global g.C.About.setup _ _ g.C.About.index c.requires.live c.requires.right))
