use Rattle.std.proofs.Common.{◌∙◌, ap, ◌∷◌, arith}
use Rattle.heap_picture.specs.Forms.{LARGE, one_number, two_numbers}
use Rattle.heap_picture.proofs.Numbers.{one_again, two_again}
use Rattle.heap_picture.proofs.NumbersRead.{one_read, two_read}
use Rattle.heap_picture.proofs.laws.numbers_are_read_as_printed.Goals as goal

pub returns-clause-one : goal.returns-clause-one
returns-clause-one c word line n = (
  λ e. one_read word LARGE line n (omega arith) e,
  λ h. ap (one_number word LARGE) h.0 ∙ one_again word LARGE n h.1 (omega arith),
)

pub returns-clause-two : goal.returns-clause-two
returns-clause-two c word other line b x digitless = (
  λ e. two_read word (b ∷ other) LARGE line x (omega arith) e,
  λ h. ap (two_numbers word (b ∷ other) LARGE) h.0 ∙ two_again word (b ∷ other) LARGE x.first x.second h.1 h.2 (omega arith) (λ _. digitless),
)
