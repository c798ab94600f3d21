use Rattle.std.proofs.Common.{arith}
use Rattle.trace_text.proofs.DigitLemmas.{four_more}
use Rattle.trace_text.proofs.digits.put_last_four.Goals as goal

pub returns-clause-items : goal.returns-clause-items
returns-clause-items c front before =
    four_more front c.args.to.now.items c.put_pair.new.to.items c.put_pair-2.new.to.items c.args.number c.requires.least (omega arith) before c.put_pair.ensures.items c.put_pair-2.ensures.items
