use Rattle.ideal_heap.proofs.StepLemmas as steps
use Rattle.ideal_heap.proofs.KeptLemmas as kept
use Rattle.ideal_heap.proofs.laws.steps.Goals as goal

pub returns-clause-start : goal.returns-clause-start
returns-clause-start c = kept.empty-ideal

pub returns-clause-next : goal.returns-clause-next
returns-clause-next c = kept.step-ideal

pub returns-clause-closed : goal.returns-clause-closed
returns-clause-closed c = kept.step-closed

pub returns-clause-answered : goal.returns-clause-answered
returns-clause-answered c = steps.never_full

pub returns-clause-run : goal.returns-clause-run
returns-clause-run c = kept.after-ideal

pub returns-clause-pins : goal.returns-clause-pins
returns-clause-pins c ms h n ideal pinned = kept.pinned-birth ms h ideal n pinned
