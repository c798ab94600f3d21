use Rattle.std.proofs.Common.{◌≡◌}
use Rattle.heap_users.proofs.UserLists.{NoneBelow}
use Rattle.heap_users.proofs.users.has_number.Given as goal

abbrev pub invariant-loop-mutator : goal.invariant-loop-mutator
invariant-loop-mutator l = NoneBelow (λ m. m.number ≡ l.number) l.mutators l.mutator-index
