use Rattle.object_model.specs.Graphs.{IsMutatorState}
use Rattle.heap_users.proofs.UserLists.{EachBelow, AreNewBelow}
use Rattle.heap_users.proofs.users.are_mutators.Given as goal

abbrev pub invariant-loop-i : goal.invariant-loop-i
invariant-loop-i l = EachBelow IsMutatorState l.mutators l.i × AreNewBelow l.mutators l.i
