use Rattle.std.proofs.Common.{◌≡◌, ℕ, ◌*◌, ◌<◌, ◌≤◌, true, length}
use Rattle.line_marks.specs.Bits.{bit_in}
use Rattle.line_marks.proofs.bits.last_bit.Given as goal

abbrev pub invariant-loop-i : goal.invariant-loop-i
invariant-loop-i l = (m : ℕ) → 64 * l.i ≤ m → m < 64 * length l.words → bit_in l.words m ≡ true → ⊥
