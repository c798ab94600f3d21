use Rattle.trace_words.proofs.ScanSteps.{read-pins}
use Rattle.trace_words.proofs.scans.read_pins.Goals as goal

pub load-requires : goal.load-requires
load-requires g c = (c.requires.own.0, c.requires.own.1, rw (c.requires.about) (read-pins g.C.About.setup _ _ _ c.args.word c.requires.zone))
