use Rattle.std.proofs.Common.{ap, arith}
use Rattle.std.specs.Int.{bit_at}
use Rattle.std.proofs.lemmas.Bool.{eqb-true}
use Rattle.std.proofs.lemmas.Nat.Bits.{bit_at_and, bit_at-lt}
use Rattle.trace_table.proofs.lines.has_all.Goals as goal

pub returns : goal.returns
returns c = λ same k set. (let both = bit_at_and c.args.word c.args.mask k in let word = ap (λ n. bit_at n k) (eqb-true _ _ same) in omega (arith, bit_at-lt c.args.word k, both, word, set))
