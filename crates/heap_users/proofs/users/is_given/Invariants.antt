use Rattle.std.proofs.Common.{◌≡◌, ◌≤◌}
use Rattle.heap_users.proofs.UserLists.{NoneBelow}
use Rattle.heap_users.proofs.users.is_given.Given as goal

abbrev pub invariant-loop-mutator : goal.invariant-loop-mutator
invariant-loop-mutator l = NoneBelow (λ m. (l.name.mutator ≡ m.number) × (l.name.birth ≤ m.births)) l.mutators l.mutator-index
