use Rattle.block_sweeps.proofs.TouchedLines.{marks-touched}
use Rattle.block_sweeps.proofs.lines.mark_touched_lines.Goals as goal

pub returns : goal.returns
returns g c = marks-touched (g.W.Words.words c.args.words.now) (g.W.Words.words c.store_lines.new.words) c.touched_lines-lines.result c.args.layout.now c.args.block
    c.touched_lines-lines.ensures.lines c.store_lines.ensures
