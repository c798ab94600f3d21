use Rattle.programs.proofs.CountLemmas as lemmas
use Rattle.programs.proofs.counts.pins_are_kept.Goals as goal

pub returns-clause-pinned : goal.returns-clause-pinned
returns-clause-pinned c = lemmas.pinned

pub returns-clause-unpinned : goal.returns-clause-unpinned
returns-clause-unpinned c = lemmas.unpinned

pub returns-clause-pin : goal.returns-clause-pin
returns-clause-pin c = lemmas.pin

pub returns-clause-pin_again : goal.returns-clause-pin_again
returns-clause-pin_again c = lemmas.pin-again

pub returns-clause-unpin : goal.returns-clause-unpin
returns-clause-unpin c = lemmas.unpin

pub returns-clause-unpin_again : goal.returns-clause-unpin_again
returns-clause-unpin_again c = lemmas.unpin-again

pub returns-clause-rest : goal.returns-clause-rest
returns-clause-rest c = lemmas.pins-rest
