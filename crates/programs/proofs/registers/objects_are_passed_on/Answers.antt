use Rattle.programs.proofs.RegisterLemmas as lemmas
use Rattle.programs.proofs.registers.objects_are_passed_on.Goals as goal

pub returns-clause-move_number : goal.returns-clause-move_number
returns-clause-move_number c = lemmas.move-number

pub returns-clause-move_field : goal.returns-clause-move_field
returns-clause-move_field c = lemmas.move-field

pub returns-clause-load_number : goal.returns-clause-load_number
returns-clause-load_number c = lemmas.load-number

pub returns-clause-load_field : goal.returns-clause-load_field
returns-clause-load_field c = lemmas.load-field

pub returns-clause-share_number : goal.returns-clause-share_number
returns-clause-share_number c = lemmas.share-number

pub returns-clause-share_field : goal.returns-clause-share_field
returns-clause-share_field c = lemmas.share-field
