use Rattle.std.proofs.Common.{arith}
use Rattle.block_sweeps.proofs.AddedLines.{adds-more, adds-in-word}
use Rattle.block_sweeps.proofs.lines.set_run.Goals as goal

pub loop-word-preserved : goal.loop-word-preserved
loop-word-preserved c = adds-more c.args.lines.now c.loop-word.lines c.args.from c.args.to c.loop-word.word c.saturating_sub-low.result c.min-high.result c.run_mask-in-loop-word.result
    (omega arith) c.loop-word.auto.word c.loop-word-test.true (omega (arith, c.saturating_sub-low.ensures)) (omega (arith, c.min-high.ensures))
    c.run_mask-in-loop-word.ensures.inside c.run_mask-in-loop-word.ensures.only c.loop-word.invariant

pub returns-then-from-to : goal.returns-then-from-to
returns-then-from-to c = adds-in-word c.args.lines.now c.args.from c.args.to c.run_mask.result (omega arith) c.if-from-to.true c.run_mask.ensures.inside c.run_mask.ensures.only
