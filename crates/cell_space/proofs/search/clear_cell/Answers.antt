use Rattle.object_model.specs.Objects.{cell_words}
use Rattle.cell_space.proofs.ClearBits.{none-clear, first-clear}
use Rattle.cell_space.proofs.search.clear_cell.Goals as goal

pub returns-then-free-eq0 : goal.returns-then-free-eq0
returns-then-free-eq0 c = none-clear c.args.starts (cell_words c.args.class) c.args.bit c.cell_starts.result c.ranges.starts.fits c.requires.bit c.cell_starts.ensures c.if-free-eq0.true

pub returns : goal.returns
returns c = first-clear c.args.starts (cell_words c.args.class) c.args.bit c.cell_starts.result c.ranges.starts.fits c.requires.bit c.cell_starts.ensures c.if-free-eq0.false
