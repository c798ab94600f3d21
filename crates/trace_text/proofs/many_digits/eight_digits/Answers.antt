use Rattle.std.proofs.Common.{◌≡◌, ◌≤◌, ◌-◌, ℕ, arith}
use Rattle.trace_text.proofs.ManyDigits.{eight_digits_are, eight_digits_bound}
use Rattle.trace_text.proofs.many_digits.eight_digits.Goals as goal

pub overflow_sub-digits : goal.overflow_sub-digits
overflow_sub-digits c =
    let is = eight_digits_are c.args.text.now c.args.from c.from_le_bytes-word.result c.requires.room c.requires.digits c.from_le_bytes-word.ensures in
    omega (arith, is.1)

pub overflow_mul-tens : goal.overflow_mul-tens
overflow_mul-tens c =
    let is = eight_digits_are c.args.text.now c.args.from c.from_le_bytes-word.result c.requires.room c.requires.digits c.from_le_bytes-word.ensures in
    omega (arith, is.1, is.2)

pub overflow_add-pairs : goal.overflow_add-pairs
overflow_add-pairs c =
    let is = eight_digits_are c.args.text.now c.args.from c.from_le_bytes-word.result c.requires.room c.requires.digits c.from_le_bytes-word.ensures in
    omega (arith, is.1, is.2)

pub returns-clause-value : goal.returns-clause-value
returns-clause-value c =
    let is = eight_digits_are c.args.text.now c.args.from c.from_le_bytes-word.result c.requires.room c.requires.digits c.from_le_bytes-word.ensures in
    let n : ℕ = is.0 in
    let same : c.from_le_bytes-word.result - 3472328296227680304 ≡ n = omega (arith, is.1) in
    rw same is.3

pub returns-clause-bound : goal.returns-clause-bound
returns-clause-bound c =
    let is = eight_digits_are c.args.text.now c.args.from c.from_le_bytes-word.result c.requires.room c.requires.digits c.from_le_bytes-word.ensures in
    let n : ℕ = is.0 in
    let same : c.from_le_bytes-word.result - 3472328296227680304 ≡ n = omega (arith, is.1) in
    let small = eight_digits_bound c.args.text.now c.args.from c.requires.room c.requires.digits in
    rw same (omega (arith, is.3, small))
