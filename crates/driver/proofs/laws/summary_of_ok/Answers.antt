use Rattle.std.proofs.Common.{refl}
use Rattle.std.specs.Fmt.{digits}
use Rattle.driver.proofs.laws.summary_of_ok.Goals as goal

pub returns : goal.returns
unfolding digits
returns c = refl
