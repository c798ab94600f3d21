use Rattle.mutator_core.proofs.SomeIdeal.{some-ideal}
use Rattle.heap_users.proofs.user_laws.heaps_represent_ideal_heaps.Goals as goal

pub returns : goal.returns
returns c = λ s ms lawful may. some-ideal s ms lawful may.mutators may.registers may.names
