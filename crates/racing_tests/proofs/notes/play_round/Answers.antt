use Rattle.racing_tests.proofs.notes.play_round.Goals as goal

pub play_epoch-requires-clause-notes : goal.play_epoch-requires-clause-notes
play_epoch-requires-clause-notes g c κs within = c.in_ok-notes.ensures.notes g.P.Plan.rules.fill

pub play_epoch-requires-clause-flags : goal.play_epoch-requires-clause-flags
play_epoch-requires-clause-flags g c κs within = c.in_ok-notes.ensures.flags g.P.Plan.rules
