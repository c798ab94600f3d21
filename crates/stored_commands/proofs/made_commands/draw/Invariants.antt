-- The first commands are drawn.
use Rattle.std.proofs.Common.{◌≡◌, ◌+◌, ℕ, length}
use Rattle.stored_commands.specs.Stretches.{AreDrawn, state_at}
use Rattle.stored_commands.proofs.made_commands.draw.Given as goal

abbrev pub invariant-loop-i : goal.invariant-loop-i
invariant-loop-i l = record {
  len : length l.forms ≡ length l.fn.forms;
  state : (n : ℕ) → l.fn.draws.state ≡ state_at n l.start → l.draws.state ≡ state_at n (l.start + l.i);
  drawn : (n : ℕ) → l.fn.draws.state ≡ state_at n l.start → AreDrawn n l.start (l.start + l.i) l.forms;
}
