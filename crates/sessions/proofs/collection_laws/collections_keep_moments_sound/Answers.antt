use Rattle.sessions.proofs.CollectedMoments as collected
use Rattle.sessions.proofs.collection_laws.collections_keep_moments_sound.Goals as goal

pub returns-clause-sound : goal.returns-clause-sound
returns-clause-sound c = collected.sound-after

pub returns-clause-makes : goal.returns-clause-makes
returns-clause-makes c = collected.makes-after

pub returns-clause-roots : goal.returns-clause-roots
returns-clause-roots c = collected.roots-kept

pub returns-clause-placed : goal.returns-clause-placed
returns-clause-placed c = collected.remembers-placed

pub returns-clause-remembers : goal.returns-clause-remembers
returns-clause-remembers c = λ r workers kind old new roots after made is. collected.remembers-after-collection r.collects r workers kind old new roots after is made
