use Rattle.trace_core.proofs.TakenStay.{taken-stays}
use Rattle.trace_core.proofs.laws.taken_blocks_stay_taken.Goals as goal

pub returns : goal.returns
returns c p m e = taken-stays p m e
