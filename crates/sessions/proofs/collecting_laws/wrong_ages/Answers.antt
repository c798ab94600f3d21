use Rattle.sessions.proofs.WrongCollections.{young-left, logged-left, bits-clear, number-left}
use Rattle.sessions.proofs.collecting_laws.wrong_ages.Goals as goal

pub returns-clause-young : goal.returns-clause-young
returns-clause-young c = young-left

pub returns-clause-logged : goal.returns-clause-logged
returns-clause-logged c = logged-left

pub returns-clause-unlogged : goal.returns-clause-unlogged
returns-clause-unlogged c = bits-clear

pub returns-clause-number : goal.returns-clause-number
returns-clause-number c = number-left
