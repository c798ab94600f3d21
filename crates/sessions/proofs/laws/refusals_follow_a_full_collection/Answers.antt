use Rattle.sessions.proofs.CollectionLaws.{refused-late}
use Rattle.sessions.proofs.laws.refusals_follow_a_full_collection.Goals as goal

pub returns : goal.returns
returns c = refused-late
