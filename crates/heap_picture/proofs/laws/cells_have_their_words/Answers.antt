use Rattle.std.proofs.Common.{arith}
use Rattle.heap_picture.proofs.BarWords.{in_cell}
use Rattle.heap_picture.proofs.laws.cells_have_their_words.Goals as goal

pub returns : goal.returns
returns c b x y = (
  λ h. (omega (arith, h.right), omega (arith, h.left, h.right, h.top, h.bottom), omega (arith, h.left, h.right, h.top, h.bottom)),
  λ h. in_cell b x y h.0 h.1 h.2,
)
