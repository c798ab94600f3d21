use Rattle.std.proofs.Common.{sym, subst, ℕ, ◌+◌}
use Rattle.object_model.specs.Objects.{state_of}
use Rattle.block_regions.specs.Regions.{IsCellLeft}
use Rattle.block_regions.proofs.RestCells.{next-left, none-left}
use Rattle.local_allocators.proofs.cells.free_cell.Goals as goal

pub returns-in-Some : goal.returns-in-Some
returns-in-Some c =
    let row = c.args.row.now in
    subst (λ (n : ℕ). IsCellLeft (state_of row) c.args.block c.args.from (record { next = c.in-Some.next; end = c.in-Some.next + n })) (sym c.cell_size-size.ensures.words)
    (next-left row.words row.layout row.number row.base c.args.block c.args.from c.args.class c.in-Some.next c.requires.class c.in-Some.ensures.cell)

pub returns-in-None : goal.returns-in-None
returns-in-None c =
    let row = c.args.row.now in
    none-left row.words row.layout row.number row.base c.args.block c.args.from c.in-None.ensures.cell
