use Rattle.line_bits.proofs.RunMasks.{inside, only}
use Rattle.line_bits.proofs.masks.run_mask.Goals as goal

pub returns-clause-inside : goal.returns-clause-inside
returns-clause-inside c = inside c.args.low c.args.high c.requires.order c.requires.high

pub returns-clause-only : goal.returns-clause-only
returns-clause-only c = only c.args.low c.args.high c.requires.order c.requires.high
