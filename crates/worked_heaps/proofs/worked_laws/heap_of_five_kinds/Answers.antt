use Rattle.worked_heaps.proofs.KindsRepresent.{lawful}
use Rattle.worked_heaps.proofs.worked_laws.heap_of_five_kinds.Goals as goal

pub returns : goal.returns
returns c = lawful
