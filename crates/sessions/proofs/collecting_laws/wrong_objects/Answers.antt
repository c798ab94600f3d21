use Rattle.sessions.proofs.WrongCollections.{dead-kept, live-lost, pinned-moved, field-left, root-left}
use Rattle.sessions.proofs.collecting_laws.wrong_objects.Goals as goal

pub returns-clause-dead_kept : goal.returns-clause-dead_kept
returns-clause-dead_kept c = dead-kept

pub returns-clause-live_lost : goal.returns-clause-live_lost
returns-clause-live_lost c = live-lost

pub returns-clause-pinned_moved : goal.returns-clause-pinned_moved
returns-clause-pinned_moved c = pinned-moved

pub returns-clause-field_left : goal.returns-clause-field_left
returns-clause-field_left c = field-left

pub returns-clause-root_left : goal.returns-clause-root_left
returns-clause-root_left c = root-left
