use Rattle.sessions.proofs.PlacedObjects as placed
use Rattle.sessions.proofs.stop_laws.placed_objects_are_blank.Goals as goal

pub returns-clause-shape : goal.returns-clause-shape
returns-clause-shape c = placed.added-shape

pub returns-clause-number : goal.returns-clause-number
returns-clause-number c = placed.added-number

pub returns-clause-references : goal.returns-clause-references
returns-clause-references c = placed.added-refs

pub returns-clause-numbers : goal.returns-clause-numbers
returns-clause-numbers c = placed.added-nums

pub returns-clause-held : goal.returns-clause-held
returns-clause-held c = placed.added-held

pub returns-clause-fresh : goal.returns-clause-fresh
returns-clause-fresh c = placed.added-fresh

pub returns-clause-bits : goal.returns-clause-bits
returns-clause-bits c = placed.added-bits

pub returns-clause-other_name : goal.returns-clause-other_name
returns-clause-other_name c = placed.other-name

pub returns-clause-other_shape : goal.returns-clause-other_shape
returns-clause-other_shape c = placed.other-shape

pub returns-clause-other_field : goal.returns-clause-other_field
returns-clause-other_field c = placed.other-field

pub returns-clause-other_num : goal.returns-clause-other_num
returns-clause-other_num c = placed.other-num

pub returns-clause-other_bits : goal.returns-clause-other_bits
returns-clause-other_bits c = placed.other-bits
