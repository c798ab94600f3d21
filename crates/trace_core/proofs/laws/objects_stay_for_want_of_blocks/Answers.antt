use Rattle.trace_core.proofs.Clauses.{none-is-free}
use Rattle.trace_core.proofs.laws.objects_stay_for_want_of_blocks.Goals as goal

pub returns : goal.returns
returns c p es trace x b is young moves free = none-is-free p es trace x is young moves b free
