use Rattle.std.proofs.Common.{refl, arith}
use Rattle.sessions.proofs.HoleKinds.{class-least, none-above}
use Rattle.sessions.proofs.fitting_laws.size_classes.Goals as goal

pub returns-clause-least : goal.returns-clause-least
returns-clause-least c size small = let found = class-least size small in (found.class, found.same, found.room, λ d below. found.least d (omega arith) below)

pub returns-clause-none : goal.returns-clause-none
returns-clause-none c = none-above

pub returns-clause-full : goal.returns-clause-full
returns-clause-full c = refl

pub returns-clause-next : goal.returns-clause-next
returns-clause-next c = refl

pub returns-clause-kinds : goal.returns-clause-kinds
returns-clause-kinds c = refl

pub returns-clause-large : goal.returns-clause-large
returns-clause-large c = refl
