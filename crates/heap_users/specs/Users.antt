-- Mutators as they stand in a program.
use Rattle.object_model.specs.Graphs.{MutatorState}
use Rattle.mutator_calls.specs.declared.need.Mutator.{Mutator}

-- the number, births and registers of a mutator
abbrev pub mutator_state : Mutator → MutatorState
mutator_state m = record { number = m.number; births = m.births; registers = m.registers }
