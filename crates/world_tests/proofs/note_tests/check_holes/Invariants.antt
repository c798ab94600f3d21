use Rattle.object_model.specs.Heaps.{heap_state}
use Rattle.block_regions.specs.Notes.{AreNotes}
use Rattle.world_tests.proofs.note_tests.check_holes.Given as goal

abbrev pub invariant-loop-size : goal.invariant-loop-size
invariant-loop-size g l = AreNotes l.fill (heap_state l.heap) l.notes
