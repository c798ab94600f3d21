use Rattle.std.proofs.Common.{◌≡◌, All, length}
use Rattle.pools.specs.declared.tests.TheConstants.{HIGHEST}
use Rattle.pools.proofs.tests.workers.Given as goal

abbrev pub invariant-loop : goal.invariant-loop
invariant-loop l = (length l.workers.items ≡ l.counter) × All (λ w. w.highest ≡ HIGHEST) l.workers.items
