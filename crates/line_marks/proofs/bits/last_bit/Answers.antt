use Rattle.std.proofs.Common.{◌-◌, ℕ, arith}
use Rattle.line_marks.proofs.BitSearch.{last-found}
use Rattle.line_marks.proofs.bits.last_bit.Goals as goal

pub returns-then-words-i-ne0 : goal.returns-then-words-i-ne0
returns-then-words-i-ne0 c =
    let i : ℕ = c.loop-i.i - 1 in
    last-found c.args.words.now i (omega arith) (omega arith) (c.type_inv.words i).fits
    (λ m later below. c.loop-i.invariant m (omega arith) below)
