use Rattle.driver.proofs.OneTrace.{trace-number, one-trace}
use Rattle.driver.proofs.text_laws.traces_of_contents.Goals as goal

pub returns-clause-number : goal.returns-clause-number
returns-clause-number c = trace-number

pub returns-clause-one : goal.returns-clause-one
returns-clause-one c = one-trace
