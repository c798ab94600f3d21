use Rattle.std.proofs.Common.{◌-◌}
use Rattle.object_model.specs.Objects.{state_over}
use Rattle.cell_space.proofs.CellSearch.{IsSearched}
use Rattle.cell_space.proofs.search.next_cell.Given as goal

abbrev pub invariant-loop-at : goal.invariant-loop-at
invariant-loop-at g l = IsSearched (state_over (g.W.Words.words l.words) l.layout 0 0) l.block l.fn.from l.size l.at

abbrev pub decreases-loop-at : goal.decreases-loop-at
decreases-loop-at g l = 4096 - l.at
