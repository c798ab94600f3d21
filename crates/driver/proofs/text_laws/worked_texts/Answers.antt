use Rattle.std.proofs.Common.{refl}
use Rattle.std.specs.Fmt.{digits}
use Rattle.driver.proofs.WorkedLives.{worked_live, live}
use Rattle.driver.proofs.text_laws.worked_texts.Goals as goal

pub returns-clause-map : goal.returns-clause-map
unfolding digits
returns-clause-map c = record { live = worked_live; are = live; printed = refl }

pub returns-clause-no_map : goal.returns-clause-no_map
unfolding digits
returns-clause-no_map c = record { live = worked_live; are = live; printed = refl }

pub returns-clause-summary : goal.returns-clause-summary
unfolding digits
returns-clause-summary c = record { live = worked_live; are = live; printed = refl }
