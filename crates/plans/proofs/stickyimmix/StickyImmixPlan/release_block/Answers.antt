use Rattle.std.proofs.Common.{refl}
use Rattle.object_model.specs.Objects.{state_over}
use Rattle.sessions.specs.Plans.{StickyImmix as sticky_immix, rules_of}
use Rattle.plan_api.proofs.EvacuationLaws.{no-candidate}
use Rattle.plans.proofs.stickyimmix.StickyImmixPlan.release_block.Goals as goal

pub returns : goal.returns
returns g c =
    let s = state_over (g.W.Words.words c.args.words.now) c.args.layout.now 0 0 in
    c.release_in_place.ensures (rules_of sticky_immix) c.args._collect (no-candidate (rules_of sticky_immix) c.args._collect s c.args.block refl)
