use Rattle.sessions.proofs.CollectionLaws.{base-full, base-nursery}
use Rattle.sessions.proofs.laws.collections_set_the_base.Goals as goal

pub returns-clause-full : goal.returns-clause-full
returns-clause-full c = base-full

pub returns-clause-nursery : goal.returns-clause-nursery
returns-clause-nursery c = base-nursery
