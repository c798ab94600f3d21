use Rattle.mm_runtime.proofs.PartsLater.{RanBelow}
use Rattle.mm_runtime.proofs.side_by_side.run_in_turn.Given as goal

abbrev pub invariant-loop-k : goal.invariant-loop-k
invariant-loop-k g l = RanBelow g.P.Plan.rules l.world l.k l.fn.parts l.parts
