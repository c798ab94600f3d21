use Rattle.std.proofs.Common.{◌≡◌, ℕ, ◌+◌, ◌*◌, subst, take, get_or, arith}
use Rattle.std.specs.Char.{IsAsciiDigit}
use Rattle.std.specs.Str.Parse.{digits_value}
use Rattle.trace_text.specs.Parts.{IsUpTo}
use Rattle.trace_text.proofs.NumeralLemmas.{numerals, value_more}
use Rattle.trace_text.proofs.numerals.read_numeral.Goals as goal

pub loop-b-preserved : goal.loop-b-preserved
loop-b-preserved c =
    let word = c.args.word.now in
    let before : ℕ = digits_value 10 (take c.loop-b.b-index word) in
    let is_digit : IsAsciiDigit (get_or word c.loop-b.b-index 0) = grind arith in
    let more = value_more word c.loop-b.b-index (omega arith) is_digit in
    let sum : before * 10 + c.from.result ≡ digits_value 10 (take (c.loop-b.b-index + 1) word) = grind arith in
    record {
      digits = grind (arith, numerals);
      sum = subst (λ (n : ℕ). IsUpTo c.args.most n c.with_digit-value.result) sum (c.with_digit-value.ensures before c.loop-b.invariant.sum);
    }
