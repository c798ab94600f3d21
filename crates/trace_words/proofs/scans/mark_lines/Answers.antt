use Rattle.trace_words.proofs.ScanSteps.{mark-lines}
use Rattle.trace_words.proofs.scans.mark_lines.Goals as goal

pub fetch_or-requires : goal.fetch_or-requires
fetch_or-requires g c = (c.requires.own.0, c.requires.own.1, rw (c.requires.about) (mark-lines g.C.About.setup _ _ _ g.C.About.object g.C.About.target c.args.word c.args.mask c.requires.may))
