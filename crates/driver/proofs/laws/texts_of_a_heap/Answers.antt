use Rattle.std.proofs.Common.{refl}
use Rattle.std.specs.Fmt.{digits}
use Rattle.driver.proofs.laws.texts_of_a_heap.Goals as goal

pub returns-clause-place : goal.returns-clause-place
unfolding digits
returns-clause-place c = refl

pub returns-clause-kinds : goal.returns-clause-kinds
unfolding digits
returns-clause-kinds c = refl
