use Rattle.sessions.proofs.WrongCollections.{old-lost, remembered-lost, young-kept, old-claimed, young-unclaimed}
use Rattle.sessions.proofs.collecting_laws.wrong_nurseries.Goals as goal

pub returns-clause-old_lost : goal.returns-clause-old_lost
returns-clause-old_lost c = old-lost

pub returns-clause-remembered_lost : goal.returns-clause-remembered_lost
returns-clause-remembered_lost c = remembered-lost

pub returns-clause-young_kept : goal.returns-clause-young_kept
returns-clause-young_kept c = young-kept

pub returns-clause-old_claimed : goal.returns-clause-old_claimed
returns-clause-old_claimed c = old-claimed

pub returns-clause-young_unclaimed : goal.returns-clause-young_unclaimed
returns-clause-young_unclaimed c = young-unclaimed
