use Rattle.std.proofs.Common.{refl}
use Rattle.sessions.specs.Plans.{SemiSpace as semi_space, rules_of}
use Rattle.plans.proofs.semispace.SemiSpacePlan.release_block.Goals as goal

pub returns : goal.returns
returns g c = c.release_copied.ensures (rules_of semi_space) (record { fill = refl; copy = refl; young = refl }) refl
