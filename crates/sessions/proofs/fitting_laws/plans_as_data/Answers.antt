use Rattle.std.proofs.Common.{refl}
use Rattle.sessions.proofs.fitting_laws.plans_as_data.Goals as goal

pub returns-clause-words : goal.returns-clause-words
returns-clause-words c = refl

pub returns-clause-collects : goal.returns-clause-collects
returns-clause-collects c = refl

pub returns-clause-moves : goal.returns-clause-moves
returns-clause-moves c = refl

pub returns-clause-young : goal.returns-clause-young
returns-clause-young c = refl

pub returns-clause-lines : goal.returns-clause-lines
returns-clause-lines c = refl

pub returns-clause-fills : goal.returns-clause-fills
returns-clause-fills c = refl

pub returns-clause-copies : goal.returns-clause-copies
returns-clause-copies c = refl

pub returns-clause-reserves : goal.returns-clause-reserves
returns-clause-reserves c = refl
