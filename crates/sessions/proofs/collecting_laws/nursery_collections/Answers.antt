use Rattle.sessions.proofs.CollectionsOfPlans.{nursery-gen-copy, nursery-sticky-immix}
use Rattle.sessions.proofs.collecting_laws.nursery_collections.Goals as goal

pub returns-clause-gen_copy : goal.returns-clause-gen_copy
returns-clause-gen_copy c = nursery-gen-copy

pub returns-clause-sticky_immix : goal.returns-clause-sticky_immix
returns-clause-sticky_immix c = nursery-sticky-immix
