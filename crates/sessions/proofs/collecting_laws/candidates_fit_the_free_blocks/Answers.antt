use Rattle.std.proofs.Common.{refl}
use Rattle.sessions.proofs.collecting_laws.candidates_fit_the_free_blocks.Goals as goal

pub returns-clause-exact : goal.returns-clause-exact
returns-clause-exact c = refl

pub returns-clause-one_more : goal.returns-clause-one_more
returns-clause-one_more c = refl

pub returns-clause-room : goal.returns-clause-room
returns-clause-room c = refl

pub returns-clause-evacuated : goal.returns-clause-evacuated
returns-clause-evacuated c = refl
