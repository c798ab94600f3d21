use Rattle.trace_words.proofs.ScanSteps.{keep-global}
use Rattle.trace_words.proofs.scans.keep_global.Goals as goal

pub load-requires : goal.load-requires
load-requires g c = (c.requires.own.0, c.requires.own.1, rw (c.requires.about.0, c.requires.about.1) (keep-global g.C.About.setup _ _ _ g.C.About.index c.requires.may c.requires.last))
