use Rattle.std.proofs.Common.{refl}
use Rattle.ideal_heap.specs.Ideal.{step}
use Rattle.driver.proofs.report_laws.worked_heap_alone.Goals as goal

pub returns-clause-record : goal.returns-clause-record
unfolding step
returns-clause-record c = refl

pub returns-clause-numbers : goal.returns-clause-numbers
unfolding step
returns-clause-numbers c = refl

pub returns-clause-roots : goal.returns-clause-roots
unfolding step
returns-clause-roots c = (refl, refl, refl)

pub returns-clause-births : goal.returns-clause-births
unfolding step
returns-clause-births c = (refl, refl)
