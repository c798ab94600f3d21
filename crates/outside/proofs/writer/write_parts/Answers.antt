use Rattle.std.proofs.Common.{List, ℕ, Bor}
use Rattle.outside.proofs.Pieces.{prefix_of_parts, on_err}
use Rattle.outside.proofs.writer.write_parts.Goals as goal

pub returns-in_err-write_text-clause-prefix : goal.returns-in_err-write_text-clause-prefix
returns-in_err-write_text-clause-prefix g c =
    on_err _ _ (prefix_of_parts (λ (part : Bor (List ℕ)). part.now) _ _ _ _ _ _ c.loop-part-test.true c.loop-part.invariant.written c.in_err-write_text.ensures.prefix)
