-- There is room for what is left to store.
use Rattle.std.proofs.Common.{◌≡◌, length}
use Rattle.lower_tests.proofs.stored.replies_are_stored_and_read_again.Given as goal

abbrev pub invariant-loop-k : goal.invariant-loop-k
invariant-loop-k g l = (length l.stored.items ≡ l.k-counter) × (l.stored.capacity ≡ 12)
