use Rattle.racing_mutator.proofs.RoomTaken.{keeps-with}
use Rattle.racing_mutator.proofs.racing.Racing.allocate_found.Goals as goal

pub returns-clause-kept : goal.returns-clause-kept
returns-clause-kept g c = keeps-with c.args.self.now.seat.now c.allocate_in.new.self.seat.now _ c.allocate_in.ensures.holds
