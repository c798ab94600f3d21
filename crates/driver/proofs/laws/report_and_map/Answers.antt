use Rattle.std.proofs.Common.{refl}
use Rattle.std.specs.Fmt.{digits}
use Rattle.driver.proofs.laws.report_and_map.Goals as goal

pub returns-clause-report : goal.returns-clause-report
unfolding digits
returns-clause-report c ms = refl

pub returns-clause-map : goal.returns-clause-map
unfolding digits
returns-clause-map c = refl
