use Rattle.std.proofs.Common.{◌≡◌, map}
use Rattle.std.specs.List.{range_with_len}
use Rattle.object_model.specs.Graphs.{new_mutator}
use Rattle.heap_users.specs.Users.{mutator_state}
use Rattle.heap_users.proofs.users.new_mutators.Given as goal

abbrev pub invariant-loop-index : goal.invariant-loop-index
invariant-loop-index l = map mutator_state l.mutators.items ≡ map new_mutator (range_with_len 1 l.index)
