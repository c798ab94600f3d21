use Rattle.std.proofs.Common.{refl}
use Rattle.std.specs.Fmt.{digits}
use Rattle.driver.proofs.laws.summary_of_each.Goals as goal

pub returns : goal.returns
unfolding digits
returns c = refl
