use Rattle.std.proofs.Common.{refl}
use Rattle.driver.proofs.text_laws.settings_of_jobs.Goals as goal

pub returns : goal.returns
returns c work traces = refl
