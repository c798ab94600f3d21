use Rattle.sessions.proofs.CollectionLaws.{session-count}
use Rattle.sessions.proofs.laws.sessions_count.Goals as goal

pub returns : goal.returns
returns c = session-count
