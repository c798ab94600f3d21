use Rattle.std.proofs.Common.{arith}
use Rattle.trace_text.proofs.TokenLemmas.{digit_more, number_at}
use Rattle.trace_text.proofs.tokens.number_after.Goals as goal

pub loop-k-preserved : goal.loop-k-preserved
loop-k-preserved c =
    let more = digit_more c.args.text.now c.args.from c.loop-k.k c.loop-k.value c.from-digit.result (omega arith) (grind arith) (grind arith) (grind arith) c.loop-k.invariant.digits c.loop-k.invariant.exact in
    record { room = omega arith; digits = more.0; exact = more.1; within = grind arith }

pub returns-clause-text : goal.returns-clause-text
returns-clause-text c =
    number_at c.args.text.now c.args.from c.loop-k.k c.loop-k.value (omega arith) (omega arith) (λ zero more. grind arith) c.loop-k.invariant.digits c.loop-k.invariant.exact (omega arith)
