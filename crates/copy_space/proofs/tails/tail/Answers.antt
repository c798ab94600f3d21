use Rattle.object_model.specs.Objects.{state_over}
use Rattle.copy_space.proofs.ClearTails.{clear-from}
use Rattle.copy_space.proofs.tails.tail.Goals as goal

pub returns-clause-clear : goal.returns-clause-clear
returns-clause-clear g c = clear-from (state_over (g.W.Words.words c.args.words.now) c.args.layout.now 0 0) c.args.block c.objects_end.result c.objects_end.ensures.tail c.requires.head c.requires.tail
