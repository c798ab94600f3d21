use Rattle.shared_row.proofs.Names.{RattleType, IsSend, IsSync, Frees, AllocatorGhosts as Ghosts}
use Rattle.shared_row.specs.contracts.rows.Right.{the_row}
use Rattle.shared_row.proofs.Leases.{right_shared}

pub sync : (T A : RattleType) (g : Ghosts A.Denot) → IsSend A → Frees g g.dealloc_token → IsSync (the_row T A g)
sync T A g s f = right_shared T A g f
