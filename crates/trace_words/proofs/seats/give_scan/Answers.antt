use Rattle.trace_words.proofs.SeatSteps.{splits-scan}
use Rattle.trace_words.proofs.seats.give_scan.Goals as goal

pub split-requires : goal.split-requires
split-requires g c = (c.requires.own.0, c.requires.own.1, rw c.requires.about (splits-scan g.C.About.setup _ _ g.C.About.object g.C.About.target c.requires.live c.requires.right.0 c.requires.right.1))
