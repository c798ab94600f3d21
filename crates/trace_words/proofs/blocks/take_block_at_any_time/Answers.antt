use Rattle.trace_words.proofs.Rooms.{take-at-any-time}
use Rattle.trace_words.proofs.blocks.take_block_at_any_time.Goals as goal

pub compare_exchange-requires : goal.compare_exchange-requires
compare_exchange-requires g c = (c.requires.own.0, c.requires.own.1, rw (c.requires.about.0, c.requires.about.1, c.requires.about.2) (take-at-any-time g.C.About.setup _ _ _ g.C.About.index c.requires.live c.requires.block c.requires.worker c.requires.copies))
