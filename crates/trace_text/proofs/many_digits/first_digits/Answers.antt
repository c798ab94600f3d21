use Rattle.std.proofs.Common.{arith, ◌+◌}
use Rattle.trace_text.proofs.ManyDigits.{digits_part, twice_eight}
use Rattle.trace_text.proofs.many_digits.first_digits.Goals as goal

pub eight_digits-first-requires-clause-digits : goal.eight_digits-first-requires-clause-digits
eight_digits-first-requires-clause-digits c =
    let some = c.leading_digits-count.ensures in
    digits_part c.args.text.now c.args.from c.leading_digits-count.result c.args.from 8 (omega (arith, c.requires, some.most)) (omega arith) (omega arith) some.digits

pub returns-then-count-lt-LANES-clause-digits : goal.returns-then-count-lt-LANES-clause-digits
returns-then-count-lt-LANES-clause-digits c =
    let some = c.leading_digits-count.ensures in
    digits_part c.args.text.now c.args.from c.leading_digits-count.result c.args.from 8 (omega (arith, c.requires, some.most)) (omega arith) (omega arith) some.digits

pub eight_digits-requires-clause-digits : goal.eight_digits-requires-clause-digits
eight_digits-requires-clause-digits c =
    let some = c.leading_digits-count.ensures in
    digits_part c.args.text.now c.args.from c.leading_digits-count.result (c.args.from + 8) 8 (omega (arith, c.requires, some.most)) (omega arith) (omega arith) some.digits

pub returns-clause-digits : goal.returns-clause-digits
returns-clause-digits c =
    let some = c.leading_digits-count.ensures in
    digits_part c.args.text.now c.args.from c.leading_digits-count.result c.args.from 16 (omega (arith, c.requires, some.most)) (omega arith) (omega arith) some.digits

pub returns-clause-value : goal.returns-clause-value
returns-clause-value c =
    let some = c.leading_digits-count.ensures in
    let digits = digits_part c.args.text.now c.args.from c.leading_digits-count.result c.args.from 16 (omega (arith, c.requires, some.most)) (omega arith) (omega arith) some.digits in
    twice_eight c.args.text.now c.args.from c.eight_digits-first.result c.eight_digits.result c.requires digits c.eight_digits-first.ensures.value c.eight_digits.ensures.value
