use Rattle.plain_world.proofs.plain_world.PlainWorld.close.Goals as goal

pub returns-clause-stopped : goal.returns-clause-stopped
returns-clause-stopped g c = c.close_with-heap.ensures.stopped

pub returns-clause-users : goal.returns-clause-users
returns-clause-users g c = c.close_with-heap.ensures.users

pub returns-clause-remembers : goal.returns-clause-remembers
returns-clause-remembers g c = c.close_with-heap.ensures.remembers

pub returns-clause-gives : goal.returns-clause-gives
returns-clause-gives g c = c.close_with-heap.ensures.gives

pub returns-clause-drawn : goal.returns-clause-drawn
returns-clause-drawn g c = c.close_with-heap.ensures.drawn

pub returns-clause-tickets : goal.returns-clause-tickets
returns-clause-tickets g c = c.close_with-heap.ensures.tickets
