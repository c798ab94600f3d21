use Rattle.std.proofs.Common.{arith, ◌<◌, ◌^◌, ◌/◌}
use Rattle.line_marks.proofs.BitSearch.{none-shifted, first-shifted}
use Rattle.line_marks.proofs.bits.first_set.Goals as goal

pub returns-then-rest-eq0 : goal.returns-then-rest-eq0
returns-then-rest-eq0 c = none-shifted c.args.word c.args.from c.if-rest-eq0.true

pub returns : goal.returns
returns c = first-shifted c.args.word c.args.from (omega arith) (let some : 0 < c.args.word / 2 ^ c.args.from = omega arith in some)
