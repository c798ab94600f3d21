use Rattle.std.proofs.Common.{ℕ, sym, subst, Option, MatchOption}
use Rattle.object_model.specs.Objects.{HeapState, state_over, cell_words}
use Rattle.cell_space.specs.WordCells.{IsFirstBeside, HasNoneBeside}
use Rattle.cell_space.proofs.BesideCells.{none-beside, first-beside}
use Rattle.cell_space.proofs.search.free_beside.Goals as goal

pub returns-in_err-bit-clause-cell : goal.returns-in_err-bit-clause-cell
returns-in_err-bit-clause-cell g c =
    let s : HeapState = state_over (g.W.Words.words c.args.words.now) c.args.layout.now 0 0 in
    subst (λ (o : Option ℕ). MatchOption o (HasNoneBeside s c.args.block (cell_words c.args.class) c.args.at) (λ x. IsFirstBeside s c.args.block (cell_words c.args.class) c.args.at x)) (sym c.from_residual.ensures)
    (none-beside s c.args.block (cell_words c.args.class) c.args.at c.start_base.result c.get-starts.result c.requires.block c.requires.offset c.start_base.ensures c.get-starts.ensures c.in_err-bit.ensures)

pub returns-clause-cell : goal.returns-clause-cell
returns-clause-cell g c =
    let s : HeapState = state_over (g.W.Words.words c.args.words.now) c.args.layout.now 0 0 in
    first-beside s c.args.block (cell_words c.args.class) c.args.at c.start_base.result c.get-starts.result c.requires.block c.requires.offset c.start_base.ensures c.get-starts.ensures c.in_ok-bit.bit c.in_ok-bit.ensures
