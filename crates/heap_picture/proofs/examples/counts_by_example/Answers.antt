use Rattle.std.proofs.Common.{refl}
use Rattle.std.specs.Fmt.{digits}
use Rattle.heap_picture.proofs.examples.counts_by_example.Goals as goal

pub returns-clause-plan : goal.returns-clause-plan
unfolding digits
returns-clause-plan c = refl

pub returns-clause-counts : goal.returns-clause-counts
unfolding digits
returns-clause-counts c = refl

pub returns-clause-kinds : goal.returns-clause-kinds
unfolding digits
returns-clause-kinds c = refl

pub returns-clause-report : goal.returns-clause-report
unfolding digits
returns-clause-report c = refl
