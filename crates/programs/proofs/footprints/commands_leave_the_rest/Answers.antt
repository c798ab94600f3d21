use Rattle.programs.proofs.FootprintLemmas as footprints
use Rattle.programs.proofs.footprints.commands_leave_the_rest.Goals as goal

pub returns-clause-registers : goal.returns-clause-registers
returns-clause-registers c = footprints.registers-stay

pub returns-clause-globals : goal.returns-clause-globals
returns-clause-globals c = footprints.globals-stay

pub returns-clause-objects : goal.returns-clause-objects
returns-clause-objects c = footprints.objects-stay

pub returns-clause-numbers : goal.returns-clause-numbers
returns-clause-numbers c = footprints.numbers-stay

pub returns-clause-fields : goal.returns-clause-fields
returns-clause-fields c = footprints.fields-stay

pub returns-clause-number : goal.returns-clause-number
returns-clause-number c = footprints.number-stays

pub returns-clause-field : goal.returns-clause-field
returns-clause-field c = footprints.field-stays
