use Rattle.std.proofs.Common.{◌≡◌, ◌++◌}
use Rattle.heap_picture.specs.Drawn.{cells_text}
use Rattle.heap_picture.proofs.svg.draw_cells.Given as goal

abbrev pub invariant-loop-block : goal.invariant-loop-block
invariant-loop-block l = l.to.items ≡ l.fn.to.items ++ cells_text l.block
