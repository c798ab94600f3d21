use Rattle.std.proofs.Common.{sym, subst, ◌<◌, arith}
use Rattle.steal_pool.proofs.Moves.{steals}
use Rattle.steal_pool.proofs.serve.steal_from.Goals as goal

pub steal_as-requires-clause-takes : goal.steal_as-requires-clause-takes
steal_as-requires-clause-takes g c = steals g.K.Fits.fits _ _ 1 (subst (λ n. 0 < n) (sym c.requires.1) (omega arith))
