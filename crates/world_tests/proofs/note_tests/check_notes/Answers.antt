use Rattle.world_tests.proofs.note_tests.check_notes.Goals as goal

pub check_holes-requires-clause-notes : goal.check_holes-requires-clause-notes
check_holes-requires-clause-notes g c = c.in_ok-notes.ensures.notes c.args.fill
