use Rattle.sessions.specs.Sessions.{begun, longer}
use Rattle.sessions.proofs.Histories as histories
use Rattle.sessions.proofs.Soundness as soundness
use Rattle.sessions.proofs.laws.sessions.Goals as goal

pub returns-clause-first : goal.returns-clause-first
returns-clause-first c t = begun

pub returns-clause-next : goal.returns-clause-next
returns-clause-next c t old new before epoch = longer old before epoch

pub returns-clause-run : goal.returns-clause-run
returns-clause-run c = histories.session-run

pub returns-clause-sound : goal.returns-clause-sound
returns-clause-sound c = soundness.epoch-sound

pub returns-clause-last : goal.returns-clause-last
returns-clause-last c = soundness.session-sound
