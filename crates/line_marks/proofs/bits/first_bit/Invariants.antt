use Rattle.std.proofs.Common.{◌≡◌, ℕ, ◌+◌, ◌*◌, ◌<◌, ◌≤◌}
use Rattle.line_marks.specs.Bits.{bit_in}
use Rattle.line_marks.proofs.bits.first_bit.Given as goal

abbrev pub invariant-loop-i : goal.invariant-loop-i
invariant-loop-i l = record {
  few : l.bit < 64;
  after : l.fn.from ≤ 64 * l.i + l.bit;
  none : (m : ℕ) → l.fn.from ≤ m → m < 64 * l.i + l.bit → bit_in l.words m ≡ l.value → ⊥;
}
