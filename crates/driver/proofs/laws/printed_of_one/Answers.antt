use Rattle.driver.proofs.OneTrace.{printed-alone}
use Rattle.driver.proofs.laws.printed_of_one.Goals as goal

pub returns : goal.returns
returns c = printed-alone
