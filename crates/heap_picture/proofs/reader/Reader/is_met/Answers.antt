use Rattle.std.proofs.Common.{◌∙◌, ap}
use Rattle.heap_picture.specs.Reading.{are_met}
use Rattle.heap_picture.proofs.Wanted.{met-by}
use Rattle.heap_picture.proofs.reader.Reader.is_met.Goals as goal

pub returns : goal.returns
returns c = met-by c.are_met.result c.args.self.now.wanted c.deref.result.now c.are_met.ensures.met c.are_met.ensures.unmet ∙ ap (are_met c.args.self.now.wanted) c.deref.ensures.value
