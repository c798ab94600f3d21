use Rattle.sessions.proofs.BirthPlaces as places
use Rattle.sessions.proofs.epoch_laws.births_lie_in_holes.Goals as goal

pub returns-clause-kind : goal.returns-clause-kind
returns-clause-kind c = places.birth-kind

pub returns-clause-behind : goal.returns-clause-behind
returns-clause-behind c = places.birth-behind

pub returns-clause-lines : goal.returns-clause-lines
returns-clause-lines c = places.birth-lines

pub returns-clause-cell : goal.returns-clause-cell
returns-clause-cell c = places.birth-cell

pub returns-clause-five : goal.returns-clause-five
returns-clause-five c = places.birth-five
