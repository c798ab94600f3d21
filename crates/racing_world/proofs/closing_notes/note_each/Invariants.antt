use Rattle.racing_world.proofs.NotesTaken.{EachTakesBelow}
use Rattle.racing_world.proofs.closing_notes.note_each.Given as goal

abbrev pub invariant-loop-place : goal.invariant-loop-place
invariant-loop-place l = EachTakesBelow l.notes.items l.initial.seats.items l.seats.items l.place
