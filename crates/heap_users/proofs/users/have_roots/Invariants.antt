use Rattle.object_model.specs.Graphs.{AreRegisters}
use Rattle.object_model.specs.Heaps.{heap_state}
use Rattle.heap_users.proofs.UserLists.{EachBelow}
use Rattle.heap_users.proofs.users.have_roots.Given as goal

abbrev pub invariant-loop-mutator : goal.invariant-loop-mutator
invariant-loop-mutator l = EachBelow (λ m. AreRegisters (heap_state l.heap) m.registers) l.mutators l.mutator-index
