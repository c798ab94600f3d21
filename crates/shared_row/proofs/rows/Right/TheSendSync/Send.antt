use Rattle.shared_row.proofs.Names.{RattleType, IsSend, Frees, AllocatorGhosts as Ghosts}
use Rattle.shared_row.specs.contracts.rows.Right.{the_row}
use Rattle.shared_row.proofs.Leases.{right_sent}

pub send : (T A : RattleType) (g : Ghosts A.Denot) → IsSend A → Frees g g.dealloc_token → IsSend (the_row T A g)
send T A g s f = right_sent T A g f
