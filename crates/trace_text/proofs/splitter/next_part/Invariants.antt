use Rattle.std.proofs.Common.{◌≡◌, ℕ, ◌<◌, get_or}
use Rattle.trace_text.proofs.splitter.next_part.Given as goal

-- no byte so far is the separator
abbrev pub invariant-loop-k : goal.invariant-loop-k
invariant-loop-k l = (i : ℕ) → i < l.k → get_or l.bytes i 0 ≡ l.at → ⊥
