use Rattle.programs.proofs.FootprintLemmas as footprints
use Rattle.programs.proofs.footprints.new_objects_are_new.Goals as goal

pub returns-clause-registers : goal.returns-clause-registers
returns-clause-registers c = footprints.register-fresh

pub returns-clause-globals : goal.returns-clause-globals
returns-clause-globals c = footprints.global-fresh

pub returns-clause-fields : goal.returns-clause-fields
returns-clause-fields c = footprints.field-fresh

pub returns-clause-number : goal.returns-clause-number
returns-clause-number c = footprints.new-leaves-number

pub returns-clause-field : goal.returns-clause-field
returns-clause-field c = footprints.new-leaves-field
