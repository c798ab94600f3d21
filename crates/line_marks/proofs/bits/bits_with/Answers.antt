use Rattle.std.proofs.Common.{◌≡◌, ◌↔◌, subst, sym, nat_eq, Bool}
use Rattle.std.specs.Int.{bit_at, bit_not}
use Rattle.std.proofs.Common.{w64}
use Rattle.line_marks.proofs.BitSearch.{with-false}
use Rattle.line_marks.proofs.bits.bits_with.Goals as goal

pub returns-else-value : goal.returns-else-value
returns-else-value c = λ n below. subst (λ (b : Bool). (bit_at (bit_not w64 c.args.word) n ≡ 1) ↔ (nat_eq (bit_at c.args.word n) 1 ≡ b)) (sym c.if-value.false) (with-false c.args.word n c.ranges.word.fits below)
