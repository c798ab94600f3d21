use Rattle.std.proofs.Common.{arith}
use Rattle.trace_words.proofs.ScanSteps.{read-header}
use Rattle.trace_words.proofs.scans.read_shape.Goals as goal

pub load-requires : goal.load-requires
load-requires g c = (c.requires.own.0, c.requires.own.1, rw (c.requires.about.0, c.requires.about.1) (read-header g.C.About.setup _ _ _ g.C.About.object 1 c.requires.held (omega arith)))
