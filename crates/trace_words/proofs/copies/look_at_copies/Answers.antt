use Rattle.trace_words.proofs.CopySteps.{look-at-copies}
use Rattle.trace_words.proofs.copies.look_at_copies.Goals as goal

pub load-requires : goal.load-requires
load-requires g c = (c.requires.own.0, c.requires.own.1, rw (c.requires.about) (look-at-copies g.C.About.setup _ _ _ c.args.word))
