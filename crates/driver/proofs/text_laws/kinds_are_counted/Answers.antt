use Rattle.std.proofs.Common.{refl}
use Rattle.std.specs.Fmt.{digits}
use Rattle.driver.proofs.text_laws.kinds_are_counted.Goals as goal

pub returns : goal.returns
unfolding digits
returns c = refl
