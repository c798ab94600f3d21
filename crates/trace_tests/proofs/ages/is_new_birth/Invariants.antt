use Rattle.std.proofs.Common.{◌<◌}
use Rattle.heap_users.proofs.UserLists.{EachBelow}
use Rattle.trace_tests.proofs.ages.is_new_birth.Given as goal

abbrev pub invariant-loop-mutator : goal.invariant-loop-mutator
invariant-loop-mutator l = EachBelow (λ u. u.births < l.birth) l.mutators l.mutator-index
