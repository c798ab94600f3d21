use Rattle.trace_words.proofs.CopySteps.{set-start}
use Rattle.trace_words.proofs.copies.set_start_of_copy.Goals as goal

pub fetch_or-requires : goal.fetch_or-requires
fetch_or-requires g c = (c.requires.own.0, c.requires.own.1, rw (c.requires.about.0, c.requires.about.1, c.requires.about.2) (set-start g.C.About.setup _ _ _ g.C.About.object g.C.About.target g.C.About.index c.requires.may c.requires.step))
