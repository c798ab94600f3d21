use Rattle.std.proofs.Common.{◌≡◌, ℕ, ◌<◌, get_or}
use Rattle.heap_picture.proofs.splitter.first_line.Given as goal

-- no byte so far is the separator
abbrev pub invariant-loop-k : goal.invariant-loop-k
invariant-loop-k l = (i : ℕ) → i < l.k → get_or l.text i 0 ≡ 10 → ⊥
