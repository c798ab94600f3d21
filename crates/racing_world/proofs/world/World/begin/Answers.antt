use Rattle.racing_world.proofs.world.World.begin.Goals as goal

pub begin_with-requires-clause-notes : goal.begin_with-requires-clause-notes
begin_with-requires-clause-notes g c = c.in_ok-notes.ensures.notes g.P.Plan.rules.fill
