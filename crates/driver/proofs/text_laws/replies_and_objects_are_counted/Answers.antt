use Rattle.std.proofs.Common.{refl}
use Rattle.std.specs.Fmt.{digits}
use Rattle.driver.proofs.text_laws.replies_and_objects_are_counted.Goals as goal

pub returns-clause-replies : goal.returns-clause-replies
unfolding digits
returns-clause-replies c = refl

pub returns-clause-held : goal.returns-clause-held
unfolding digits
returns-clause-held c = refl
