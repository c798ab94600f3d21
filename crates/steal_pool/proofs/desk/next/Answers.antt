use Rattle.steal_pool.proofs.Moves.{own_pops, own_finds}
use Rattle.steal_pool.proofs.desk.next.Goals as goal

pub pop_as-requires-clause-lifo : goal.pop_as-requires-clause-lifo
pop_as-requires-clause-lifo g c = λ _. own_pops g.K.Fits.fits _ _ c.requires.owner.0 c.requires.owner.2

pub pop_as-requires-clause-empty : goal.pop_as-requires-clause-empty
pop_as-requires-clause-empty g c = own_finds g.K.Fits.fits _ _ c.requires.owner.0
