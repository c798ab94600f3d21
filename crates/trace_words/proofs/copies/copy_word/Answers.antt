use Rattle.trace_words.proofs.CopySteps.{copy-word}
use Rattle.trace_words.proofs.copies.copy_word.Goals as goal

pub store-requires : goal.store-requires
store-requires g c = (c.requires.own.0, c.requires.own.1, rw (c.requires.about.0, c.requires.about.1, c.requires.about.2) (copy-word g.C.About.setup _ _ _ g.C.About.object g.C.About.target g.C.About.index c.requires.may c.requires.step))
