use Rattle.trace_table.proofs.SeatEnds.{whole, all-done}
use Rattle.trace_table.proofs.ends.all_seats_are_the_whole.Goals as goal

pub returns-clause-whole : goal.returns-clause-whole
returns-clause-whole c = whole

pub returns-clause-done : goal.returns-clause-done
returns-clause-done c = all-done
