use Rattle.trace_words.proofs.Rooms.{look-at-block}
use Rattle.trace_words.proofs.blocks.look_at_block.Goals as goal

pub load-requires : goal.load-requires
load-requires g c = (c.requires.own.0, c.requires.own.1, rw (c.requires.about.0, c.requires.about.1) (look-at-block g.C.About.setup _ _ _ g.C.About.index c.requires.live c.requires.block))
