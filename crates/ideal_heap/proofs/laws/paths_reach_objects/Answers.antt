use Rattle.ideal_heap.proofs.KeptLemmas as kept
use Rattle.ideal_heap.proofs.laws.paths_reach_objects.Goals as goal

pub returns : goal.returns
returns c h n closed reached = kept.reached-born h closed n reached
