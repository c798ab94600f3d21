use Rattle.std.proofs.Common.{refl}
use Rattle.sessions.specs.Plans.{StickyImmix as sticky_immix, rules_of}
use Rattle.plans.proofs.stickyimmix.StickyImmixPlan.relist_block.Goals as goal

pub returns : goal.returns
returns g c = c.relist_lines.ensures (rules_of sticky_immix) refl
