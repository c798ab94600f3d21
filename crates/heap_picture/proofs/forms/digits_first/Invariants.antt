use Rattle.std.proofs.Common.{◌≡◌, ℕ, ◌<◌, false, get_or}
use Rattle.heap_picture.specs.Forms.{is_no_digit}
use Rattle.heap_picture.proofs.forms.digits_first.Given as goal

-- every byte so far is a digit
abbrev pub invariant-loop-k : goal.invariant-loop-k
invariant-loop-k l = (i : ℕ) → i < l.k → is_no_digit (get_or l.text i 0) ≡ false
