use Rattle.std.proofs.Common.{◌+◌, ◌<◌, arith}
use Rattle.line_marks.proofs.RunSearch as runs
use Rattle.line_marks.proofs.runs.first_run.Goals as goal

pub returns-then-end-line : goal.returns-then-end-line
returns-then-end-line c =
    runs.run-found c.args.lines.now c.requires.words c.args.from c.args.needed c.loop-line.at c.requires.some c.loop-line.invariant c.in-Some.line c.in-Some.ensures c.run_end-end.result c.run_end-end.ensures (omega arith)

pub loop-line-preserved : goal.loop-line-preserved
loop-line-preserved c =
    runs.searched-more c.args.lines.now c.requires.words c.args.from c.args.needed c.loop-line.at c.requires.some c.loop-line.invariant c.in-Some.line c.in-Some.ensures c.run_end-end.result c.run_end-end.ensures (let short : c.run_end-end.result < c.in-Some.line + c.args.needed = omega arith in short)

pub returns : goal.returns
returns c =
    runs.none-found c.args.lines.now c.args.from c.args.needed c.loop-line.at c.requires.words c.requires.some c.loop-line.invariant c.in_default.ensures
