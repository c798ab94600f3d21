use Rattle.std.proofs.Common.{refl}
use Rattle.sessions.proofs.collecting_laws.movable_objects.Goals as goal

pub returns-clause-moved : goal.returns-clause-moved
returns-clause-moved c = refl

pub returns-clause-unmoved : goal.returns-clause-unmoved
returns-clause-unmoved c = refl
