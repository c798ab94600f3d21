use Rattle.cell_space.proofs.ClassTable.{starts-are}
use Rattle.cell_space.proofs.classes.cell_starts.Goals as goal

pub returns : goal.returns
returns c = λ n small. starts-are c.args.class n c.requires small
