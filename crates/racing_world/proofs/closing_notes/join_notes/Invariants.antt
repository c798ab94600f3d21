use Rattle.racing_world.proofs.LeastNoted.{JoinsBelow}
use Rattle.racing_world.proofs.closing_notes.join_notes.Given as goal

abbrev pub invariant-loop-block : goal.invariant-loop-block
invariant-loop-block l = JoinsBelow l.fill l.seats.items l.initial.notes.items l.notes.items l.block
