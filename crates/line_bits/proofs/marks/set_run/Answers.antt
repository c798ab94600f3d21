use Rattle.line_bits.proofs.SetBits.{changed, unchanged}
use Rattle.line_bits.proofs.marks.set_run.Goals as goal

pub returns-then-marked-before : goal.returns-then-marked-before
returns-then-marked-before g c =
    changed c.args.low c.args.high c.run_mask.result c.run_mask.ensures.inside c.run_mask.ensures.only c.get-before.result (g.W.Words.words c.args.words.now) c.args.index c.get-before.ensures
    (g.W.Words.words c.set.new.self) c.requires.index c.set.ensures.words c.set.ensures.fit

pub returns-else-marked-before : goal.returns-else-marked-before
returns-else-marked-before g c =
    unchanged c.args.low c.args.high c.run_mask.result c.run_mask.ensures.inside c.run_mask.ensures.only c.get-before.result (g.W.Words.words c.args.words.now) c.args.index c.get-before.ensures c.if-marked-before.false
