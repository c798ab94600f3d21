use Rattle.std.proofs.Common.{◌≡◌, ℕ, ◌+◌, ◌<◌, ◌&&◌, ◌||◌, IsTrue}
use Rattle.side_meta.specs.BitWords.{has_bit}
use Rattle.block_sweeps.specs.WordSweeps.{survives}
use Rattle.block_sweeps.proofs.sweep.living_bits.Given as goal

abbrev pub invariant-loop-rest : goal.invariant-loop-rest
invariant-loop-rest g l = record {
  within : (j : ℕ) → j < 64 → IsTrue (has_bit l.rest j) → IsTrue (has_bit l.starts j);
  living : (j : ℕ) → j < 64 → has_bit l.living j ≡ (has_bit l.starts j && (has_bit l.rest j || survives (g.W.Words.words l.words) l.base (l.first + j)));
}

abbrev pub decreases-loop-rest : goal.decreases-loop-rest
decreases-loop-rest g l = l.rest
