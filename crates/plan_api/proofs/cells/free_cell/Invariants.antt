use Rattle.std.proofs.Common.{ℕ, ◌≤◌}
use Rattle.plan_api.specs.Cells.{IsClearCell}
use Rattle.plan_api.proofs.cells.free_cell.Given as goal

abbrev pub invariant-loop-index : goal.invariant-loop-index
invariant-loop-index l = (x : ℕ) → l.from ≤ x → (cell : IsClearCell l.starts l.cell_size x) → l.index ≤ cell.index
