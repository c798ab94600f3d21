use Rattle.plain_world.proofs.plain_world.PlainWorld.begin.Goals as goal

pub begin_with-requires-clause-notes : goal.begin_with-requires-clause-notes
begin_with-requires-clause-notes g c = c.in_ok-notes.ensures.notes g.P.Plan.rules.fill

pub begin_with-requires-clause-flags : goal.begin_with-requires-clause-flags
begin_with-requires-clause-flags g c = c.in_ok-notes.ensures.flags g.P.Plan.rules

pub returns-clause-open : goal.returns-clause-open
returns-clause-open g c = c.begin_with.ensures.open

pub returns-clause-tickets : goal.returns-clause-tickets
returns-clause-tickets g c = c.begin_with.ensures.tickets

pub returns-clause-begins : goal.returns-clause-begins
returns-clause-begins g c = c.begin_with.ensures.begins
