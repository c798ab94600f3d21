use Rattle.racing_world.proofs.LeastNoted.{IsLeastBelow}
use Rattle.racing_world.proofs.closing_notes.least_of.Given as goal

abbrev pub invariant-loop-place : goal.invariant-loop-place
invariant-loop-place l = IsLeastBelow l.seats.items l.block l.known l.place l.least
