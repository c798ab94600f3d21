use Rattle.std.proofs.Common.{◌≡◌, true, replicate}
use Rattle.write_barrier.proofs.list.all_flags.Given as goal

abbrev pub invariant-loop : goal.invariant-loop
invariant-loop l = l.flags.items ≡ replicate l.counter true
