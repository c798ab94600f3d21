use Rattle.object_model.specs.Objects.{state_over}
use Rattle.large_space.proofs.RunSearch.{IsScanned}
use Rattle.large_space.proofs.search.find_run.Given as goal

abbrev pub invariant-loop-block : goal.invariant-loop-block
invariant-loop-block g l = IsScanned (state_over (g.W.Words.words l.words) l.layout 0 0) l.count l.from l.block
