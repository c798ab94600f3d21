use Rattle.programs.proofs.RegisterLemmas as lemmas
use Rattle.programs.proofs.registers.registers_are_copied.Goals as goal

pub returns-clause-moved : goal.returns-clause-moved
returns-clause-moved c = lemmas.moved

pub returns-clause-dropped : goal.returns-clause-dropped
returns-clause-dropped c = lemmas.dropped

pub returns-clause-loaded : goal.returns-clause-loaded
returns-clause-loaded c = lemmas.loaded

pub returns-clause-shared : goal.returns-clause-shared
returns-clause-shared c = lemmas.shared

pub returns-clause-move_reply : goal.returns-clause-move_reply
returns-clause-move_reply c = lemmas.move

pub returns-clause-drop_reply : goal.returns-clause-drop_reply
returns-clause-drop_reply c = lemmas.drop-register

pub returns-clause-load_reply : goal.returns-clause-load_reply
returns-clause-load_reply c = lemmas.load

pub returns-clause-share_reply : goal.returns-clause-share_reply
returns-clause-share_reply c = lemmas.share
