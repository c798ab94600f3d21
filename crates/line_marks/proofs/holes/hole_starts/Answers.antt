use Rattle.line_marks.proofs.HoleStarts.{lowest, others}
use Rattle.line_marks.proofs.holes.hole_starts.Goals as goal

pub returns-clause-lowest : goal.returns-clause-lowest
returns-clause-lowest c = lowest c.args.word c.ranges.word.fits c.args.before c.requires

pub returns-clause-others : goal.returns-clause-others
returns-clause-others c = others c.args.word c.ranges.word.fits c.args.before c.requires
