use Rattle.trace_words.proofs.SeatSteps.{splits-parts}
use Rattle.trace_words.proofs.seats.give_parts.Goals as goal

pub split-requires : goal.split-requires
split-requires g c = (c.requires.own.0, c.requires.own.1, rw c.requires.about (splits-parts g.C.About.setup _ _ g.C.About.index g.C.About.worker c.requires.parts.0 c.requires.parts.1 c.requires.number))
