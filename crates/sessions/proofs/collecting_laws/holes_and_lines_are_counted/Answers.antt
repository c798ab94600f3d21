use Rattle.std.proofs.Common.{refl}
use Rattle.sessions.proofs.collecting_laws.holes_and_lines_are_counted.Goals as goal

pub returns-clause-holes : goal.returns-clause-holes
returns-clause-holes c = refl

pub returns-clause-marked : goal.returns-clause-marked
returns-clause-marked c = refl

pub returns-clause-starts : goal.returns-clause-starts
returns-clause-starts c = refl

pub returns-clause-recyclable : goal.returns-clause-recyclable
returns-clause-recyclable c = refl

pub returns-clause-kind : goal.returns-clause-kind
returns-clause-kind c = refl
