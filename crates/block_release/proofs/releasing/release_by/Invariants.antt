use Rattle.block_release.proofs.ReleaseLoop.{Going}
use Rattle.block_release.proofs.releasing.release_by.Given as goal

abbrev pub invariant-loop-block : goal.invariant-loop-block
invariant-loop-block g l = Going g.P.Plan.rules l.collect l.base l.fn.traced.row l.words l.layout l.block
