use Rattle.immix_space.proofs.SweptLines.{lines-exact}
use Rattle.immix_space.proofs.sweeps.relist.Goals as goal

pub returns-clause-exact : goal.returns-clause-exact
returns-clause-exact g c =
    lines-exact c.args.layout.now c.args.block (g.W.Words.words c.args.words.now) (g.W.Words.words c.mark_touched_lines.new.words) c.requires.block.block c.mark_touched_lines.ensures
