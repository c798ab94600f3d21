use Rattle.sessions.proofs.CollectionLaws.{grant-allowed, headroom-least}
use Rattle.sessions.proofs.laws.grants_are_allowed.Goals as goal

pub returns-clause-grant : goal.returns-clause-grant
returns-clause-grant c = grant-allowed

pub returns-clause-headroom : goal.returns-clause-headroom
returns-clause-headroom c = headroom-least
