use Rattle.std.proofs.Common.{refl}
use Rattle.std.specs.Fmt.{digits}
use Rattle.driver.proofs.laws.replies_of_two.Goals as goal

pub returns : goal.returns
unfolding digits
returns c heap ms = refl
