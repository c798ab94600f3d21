use Rattle.std.proofs.Common.{sym, ◌∙◌, ap, ◌++◌, append_assoc}
use Rattle.heap_picture.specs.Drawn.{cell_text, cells_text}
use Rattle.heap_picture.proofs.CellTexts.{cells_more}
use Rattle.heap_picture.proofs.svg.draw_cells.Goals as goal

pub loop-block-preserved : goal.loop-block-preserved
loop-block-preserved c =
    let n = c.loop-block.block in
    let old = c.args.to.now.items in
    c.in_ok-draw_cell.ensures ∙ ap (λ m. c.loop-block.to.items ++ cell_text m) c.from.ensures
    ∙ ap (λ text. text ++ cell_text n) c.loop-block.invariant ∙ append_assoc old (cells_text n) (cell_text n)
    ∙ ap (λ text. old ++ text) (sym (cells_more n))
