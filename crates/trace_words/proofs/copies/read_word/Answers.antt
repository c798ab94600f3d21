use Rattle.trace_words.proofs.CopySteps.{read-word}
use Rattle.trace_words.proofs.copies.read_word.Goals as goal

pub load-requires : goal.load-requires
load-requires g c = (c.requires.own.0, c.requires.own.1, rw (c.requires.about.0, c.requires.about.1) (read-word g.C.About.setup _ _ _ g.C.About.object g.C.About.target g.C.About.index c.args.offset c.requires.may c.requires.plain.0 c.requires.plain.1))
