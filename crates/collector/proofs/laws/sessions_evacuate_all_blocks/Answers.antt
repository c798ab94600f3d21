use Rattle.std.proofs.Common.{sym, subst}
use Rattle.object_model.specs.declared.collect.Collect.TheVariants.{Full}
use Rattle.collector.specs.Collected.{EvacuatesAll}
use Rattle.collector.proofs.SessionBlocks as blocks
use Rattle.collector.proofs.laws.sessions_evacuate_all_blocks.Goals as goal

pub returns-clause-session : goal.returns-clause-session
returns-clause-session c q t now copies rules reached = subst (λ r. EvacuatesAll r Full now.heap) (sym rules) (blocks.session q copies t rules now reached)

pub returns-clause-part : goal.returns-clause-part
returns-clause-part c q t before now ends copies rules runs was =
    subst (λ r. EvacuatesAll r Full now.heap) (sym rules) (blocks.part q copies t rules before now ends runs (subst (λ r. EvacuatesAll r Full before.heap) rules was))

pub returns-clause-collection : goal.returns-clause-collection
returns-clause-collection c q t kind before now copies rules made was =
    subst (λ r. EvacuatesAll r Full now.heap) (sym rules) (blocks.collection q copies t rules kind before now made (subst (λ r. EvacuatesAll r Full before.heap) rules was))

pub returns-clause-placement : goal.returns-clause-placement
returns-clause-placement c q t m d refs nums before now copies rules places was =
    subst (λ r. EvacuatesAll r Full now.heap) (sym rules) (blocks.placement q copies t rules m d refs nums before now places (subst (λ r. EvacuatesAll r Full before.heap) rules was))
