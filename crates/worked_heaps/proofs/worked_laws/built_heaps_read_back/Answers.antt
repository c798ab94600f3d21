use Rattle.std.proofs.Common.{refl}
use Rattle.worked_heaps.proofs.worked_laws.built_heaps_read_back.Goals as goal

pub returns-clause-held : goal.returns-clause-held
returns-clause-held c = refl

pub returns-clause-pinned : goal.returns-clause-pinned
returns-clause-pinned c = refl

pub returns-clause-unlogged : goal.returns-clause-unlogged
returns-clause-unlogged c = refl

pub returns-clause-names : goal.returns-clause-names
returns-clause-names c = refl

pub returns-clause-refs : goal.returns-clause-refs
returns-clause-refs c = refl

pub returns-clause-nums : goal.returns-clause-nums
returns-clause-nums c = refl

pub returns-clause-sizes : goal.returns-clause-sizes
returns-clause-sizes c = refl

pub returns-clause-numbers : goal.returns-clause-numbers
returns-clause-numbers c = refl

pub returns-clause-targets : goal.returns-clause-targets
returns-clause-targets c = refl

pub returns-clause-records : goal.returns-clause-records
returns-clause-records c = refl

pub returns-clause-fields : goal.returns-clause-fields
returns-clause-fields c = refl

pub returns-clause-globals : goal.returns-clause-globals
returns-clause-globals c = refl

pub returns-clause-blocks : goal.returns-clause-blocks
returns-clause-blocks c = refl

pub returns-clause-lines : goal.returns-clause-lines
returns-clause-lines c = refl

pub returns-clause-lines_of_two : goal.returns-clause-lines_of_two
returns-clause-lines_of_two c = refl

pub returns-clause-plain : goal.returns-clause-plain
returns-clause-plain c = (refl, refl, refl, refl, refl)
