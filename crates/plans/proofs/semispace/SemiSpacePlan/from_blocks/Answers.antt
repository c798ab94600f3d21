use Rattle.std.proofs.Common.{refl}
use Rattle.sessions.specs.Plans.{SemiSpace as semi_space, rules_of}
use Rattle.plans.proofs.semispace.SemiSpacePlan.from_blocks.Goals as goal

pub returns : goal.returns
returns c = c.in_ok-from.ensures (rules_of semi_space) (record { fill = refl; copy = refl; young = refl })
