use Rattle.std.proofs.Common.{◌-◌}
use Rattle.line_marks.proofs.RunSearch.{IsSearched}
use Rattle.line_marks.proofs.runs.first_run.Given as goal

abbrev pub invariant-loop-line : goal.invariant-loop-line
invariant-loop-line l = IsSearched l.lines l.from l.needed l.at

abbrev pub decreases-loop-line : goal.decreases-loop-line
decreases-loop-line l = 256 - l.at
