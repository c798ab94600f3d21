use Rattle.std.proofs.Common.{refl}
use Rattle.sessions.specs.Plans.{GenCopy as gen_copy, rules_of}
use Rattle.plans.proofs.gencopy.GenCopyPlan.from_blocks.Goals as goal

pub returns : goal.returns
returns c = c.in_ok-from.ensures (rules_of gen_copy) (record { fill = refl; copy = refl; young = refl })
