use Rattle.std.proofs.Common.{refl}
use Rattle.heap_picture.proofs.laws.lines_have_bars.Goals as goal

pub returns : goal.returns
returns c names r places text is = (is.text_is, refl)
