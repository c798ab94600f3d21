use Rattle.sessions.proofs.HoleStarts.{hole-from-start, start-of-hole}
use Rattle.sessions.proofs.collecting_laws.hole_starts_begin_holes.Goals as goal

pub returns-clause-hole : goal.returns-clause-hole
returns-clause-hole c = hole-from-start

pub returns-clause-start : goal.returns-clause-start
returns-clause-start c = start-of-hole
