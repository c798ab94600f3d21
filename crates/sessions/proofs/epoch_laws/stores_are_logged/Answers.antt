use Rattle.sessions.proofs.EpochParts as parts
use Rattle.sessions.proofs.epoch_laws.stores_are_logged.Goals as goal

pub returns-clause-no_put : goal.returns-clause-no_put
returns-clause-no_put c = parts.no-put

pub returns-clause-no_ok : goal.returns-clause-no_ok
returns-clause-no_ok c = parts.no-done

pub returns-clause-second : goal.returns-clause-second
returns-clause-second c = parts.stored-second

pub returns-clause-stores : goal.returns-clause-stores
returns-clause-stores c = parts.stores-into
