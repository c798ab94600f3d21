use Rattle.sessions.proofs.SoundMoments as sound
use Rattle.sessions.proofs.stop_laws.sound_moments_have_no_loose_references.Goals as goal

pub returns-clause-held : goal.returns-clause-held
returns-clause-held c = sound.no-dangling

pub returns-clause-old : goal.returns-clause-old
returns-clause-old c = sound.old-to-old

pub returns-clause-reached : goal.returns-clause-reached
returns-clause-reached c = sound.reached

pub returns-clause-mutators : goal.returns-clause-mutators
returns-clause-mutators c = sound.as-many
