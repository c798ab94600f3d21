use Rattle.sessions.proofs.Holes.{hole-clear, hole-start}
use Rattle.sessions.proofs.laws.holes_are_clear.Goals as goal

pub returns-clause-clear : goal.returns-clause-clear
returns-clause-clear c = hole-clear

pub returns-clause-start : goal.returns-clause-start
returns-clause-start c = hole-start
