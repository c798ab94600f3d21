use Rattle.sessions.proofs.StopSteps as steps
use Rattle.sessions.proofs.stop_laws.epochs_add_entries.Goals as goal

pub returns-clause-entries : goal.returns-clause-entries
returns-clause-entries c t before now epoch = (let adds = steps.epoch-adds t before now epoch in (adds.ends, adds.part, adds.needs, adds.meets, adds.done, adds.each, adds.served, adds.met))

pub returns-clause-commands : goal.returns-clause-commands
returns-clause-commands c = steps.epoch-commands

pub returns-clause-blocks : goal.returns-clause-blocks
returns-clause-blocks c = steps.session-blocks

pub returns-clause-base : goal.returns-clause-base
returns-clause-base c = steps.session-base

pub returns-clause-whole : goal.returns-clause-whole
returns-clause-whole c = steps.whole-next

pub returns-clause-collections : goal.returns-clause-collections
returns-clause-collections c = steps.epoch-makes
