use Rattle.racing_world.proofs.NotesTaken.{TakesBelow}
use Rattle.racing_world.proofs.closing_notes.note_blocks.Given as goal

abbrev pub invariant-loop-block : goal.invariant-loop-block
invariant-loop-block l = TakesBelow l.notes.items l.initial.seat l.seat l.block
