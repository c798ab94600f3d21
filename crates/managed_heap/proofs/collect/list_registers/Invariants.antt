use Rattle.std.proofs.Common.{◌≡◌, map, take}
use Rattle.object_model.specs.Graphs.{roots_of}
use Rattle.heap_users.specs.Users.{mutator_state}
use Rattle.managed_heap.proofs.collect.list_registers.Given as goal

abbrev pub invariant-loop-mutator : goal.invariant-loop-mutator
invariant-loop-mutator l = l.roots.items ≡ roots_of (map mutator_state (take l.mutator-index l.mutators))
