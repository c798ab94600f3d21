use Rattle.std.proofs.Common.{arith}
use Rattle.trace_text.proofs.DigitLemmas.{pair_more}
use Rattle.trace_text.proofs.digits.put_medium.Goals as goal

pub returns-else-number-lt100-clause-items : goal.returns-else-number-lt100-clause-items
returns-else-number-lt100-clause-items c =
    pair_more c.args.to.now.items c.put_small.new.to.items c.put_pair.new.to.items c.args.number (omega arith) (omega arith) c.put_small.ensures.items c.put_pair.ensures.items
