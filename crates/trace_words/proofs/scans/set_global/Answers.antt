use Rattle.trace_words.proofs.ScanSteps.{set-global}
use Rattle.trace_words.proofs.scans.set_global.Goals as goal

pub store-requires : goal.store-requires
store-requires g c = (c.requires.own.0, c.requires.own.1, rw (c.requires.about.0, c.requires.about.1) (set-global g.C.About.setup _ _ _ g.C.About.index c.args.value c.requires.may c.requires.last))
