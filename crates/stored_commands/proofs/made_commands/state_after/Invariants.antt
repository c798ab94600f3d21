-- The generator draws this command next.
use Rattle.std.proofs.Common.{◌≡◌, ℕ}
use Rattle.stored_commands.specs.Stretches.{state_at}
use Rattle.stored_commands.proofs.made_commands.state_after.Given as goal

abbrev pub invariant-loop-i : goal.invariant-loop-i
invariant-loop-i l = (n : ℕ) → l.fn.state ≡ state_at n l.from → l.draws.state ≡ state_at n l.i
