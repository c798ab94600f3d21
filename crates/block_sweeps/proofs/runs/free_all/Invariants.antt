use Rattle.object_model.specs.Objects.{state_over}
use Rattle.block_sweeps.specs.RunSweeps.{FreesAll}
use Rattle.block_sweeps.proofs.runs.free_all.Given as goal

abbrev pub invariant-loop-block : goal.invariant-loop-block
invariant-loop-block g l = FreesAll (state_over (g.W.Words.words l.initial.words) l.layout 0 0) (state_over (g.W.Words.words l.words) l.layout 0 0) l.from l.block
