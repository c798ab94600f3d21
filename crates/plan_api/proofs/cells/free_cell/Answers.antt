use Rattle.std.proofs.Common.{◌/◌, ◌≤◌, arith, refl, sym}
use Rattle.plan_api.proofs.CellSearch as search_cells
use Rattle.plan_api.proofs.cells.free_cell.Goals as goal

pub returns-then-not-is_set : goal.returns-then-not-is_set
returns-then-not-is_set c =
    (search_cells.first-cell c.args.starts.now c.args.cell_size c.args.from c.loop-index.index (omega arith) c.loop-index.invariant (omega arith) (omega arith) (sym c.if-not-is_set.ensures), refl)

pub loop-index-preserved : goal.loop-index-preserved
loop-index-preserved c =
    search_cells.cell-past c.args.starts.now c.args.cell_size c.args.from c.loop-index.index (omega arith) c.loop-index.invariant (sym c.if-not-is_set.ensures)

pub returns : goal.returns
returns c = search_cells.no-cell c.args.starts.now c.args.cell_size c.args.from c.loop-index.index (omega arith) c.loop-index.invariant (let past : 4096 / c.args.cell_size ≤ c.loop-index.index = omega arith in past)
