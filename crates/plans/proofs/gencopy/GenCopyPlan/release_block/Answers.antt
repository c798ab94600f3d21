use Rattle.std.proofs.Common.{refl}
use Rattle.sessions.specs.Plans.{GenCopy as gen_copy, rules_of}
use Rattle.plans.proofs.gencopy.GenCopyPlan.release_block.Goals as goal

pub returns : goal.returns
returns g c = c.release_copied.ensures (rules_of gen_copy) (record { fill = refl; copy = refl; young = refl }) refl
