use Rattle.std.proofs.Common.{refl}
use Rattle.std.specs.Fmt.{digits}
use Rattle.driver.proofs.text_laws.text_of_each_kind.Goals as goal

pub returns-clause-held : goal.returns-clause-held
unfolding digits
returns-clause-held c = refl

pub returns-clause-kinds : goal.returns-clause-kinds
unfolding digits
returns-clause-kinds c = refl

pub returns-clause-map : goal.returns-clause-map
unfolding digits
returns-clause-map c = refl
