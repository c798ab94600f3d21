use Rattle.sessions.proofs.WrongCollections.{emptied-left, taken-young, evacuated-left, lines-kept, class-changed, crossed, not-crossed}
use Rattle.sessions.proofs.collecting_laws.wrong_blocks.Goals as goal

pub returns-clause-emptied : goal.returns-clause-emptied
returns-clause-emptied c = emptied-left

pub returns-clause-taken : goal.returns-clause-taken
returns-clause-taken c = taken-young

pub returns-clause-kept : goal.returns-clause-kept
returns-clause-kept c = evacuated-left

pub returns-clause-lines : goal.returns-clause-lines
returns-clause-lines c = lines-kept

pub returns-clause-others : goal.returns-clause-others
returns-clause-others c = class-changed

pub returns-clause-crossed : goal.returns-clause-crossed
returns-clause-crossed c = crossed

pub returns-clause-not_crossed : goal.returns-clause-not_crossed
returns-clause-not_crossed c = not-crossed
