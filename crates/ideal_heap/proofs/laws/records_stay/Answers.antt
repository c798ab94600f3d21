use Rattle.ideal_heap.proofs.KeptLemmas as kept
use Rattle.ideal_heap.proofs.laws.records_stay.Goals as goal

pub returns-clause-step : goal.returns-clause-step
returns-clause-step c = kept.record-stays

pub returns-clause-run : goal.returns-clause-run
returns-clause-run c = kept.after-stays
