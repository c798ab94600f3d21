use Rattle.mutator_core.proofs.Left.{tickets-most, free-left, not-all-seen}
use Rattle.mutator_core.proofs.laws.tickets_leave_free_blocks.Goals as goal

pub returns-clause-enough : goal.returns-clause-enough
returns-clause-enough c p i log is = tickets-most p i log is

pub returns-clause-left : goal.returns-clause-left
returns-clause-left c p i log is = free-left p i log is

pub returns-clause-seen : goal.returns-clause-seen
returns-clause-seen c p i log is = not-all-seen p i log is
