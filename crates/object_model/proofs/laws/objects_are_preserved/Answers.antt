use Rattle.object_model.proofs.NothingMoves.{still}
use Rattle.object_model.proofs.laws.objects_are_preserved.Goals as goal

pub returns-clause-still : goal.returns-clause-still
returns-clause-still c s roots order all = still s roots order all
