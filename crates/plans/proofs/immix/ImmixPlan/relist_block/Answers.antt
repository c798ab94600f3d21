use Rattle.std.proofs.Common.{refl}
use Rattle.sessions.specs.Plans.{Immix as immix, rules_of}
use Rattle.plans.proofs.immix.ImmixPlan.relist_block.Goals as goal

pub returns : goal.returns
returns g c = c.relist_lines.ensures (rules_of immix) refl
