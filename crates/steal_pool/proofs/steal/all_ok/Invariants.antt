use Rattle.std.proofs.Common.{◌≡◌, map, Ok}
use Rattle.steal_pool.proofs.steal.all_ok.Given as goal

abbrev pub invariant-loop-result : goal.invariant-loop-result
invariant-loop-result g l = l.yielded ≡ map (λ s. Ok s) l.seats.items
