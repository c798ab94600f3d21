use Rattle.std.proofs.Common.{◌≡◌, ℕ, List, ◌++◌}
use Rattle.std.specs.Prelude.{codes}
use Rattle.heap_picture.specs.Bars.{cell_rect}
use Rattle.heap_picture.specs.Drawn.{full_rect_text}
use Rattle.heap_picture.proofs.Appends.{then}
use Rattle.heap_picture.proofs.svg.draw_cell.Goals as goal

pub returns : goal.returns
returns c =
    let t0 : List ℕ = c.args.to.now.items in
    let a1 : List ℕ = codes "<path class=\"f\" d=\"" in
    let a2 : List ℕ = full_rect_text (cell_rect c.args.block) in
    let a3 : List ℕ = codes "\"/>\n" in
    let t1 : List ℕ = c.extend_from_slice.new.self.items in
    let t2 : List ℕ = c.draw_full.new.to.items in
    let t3 : List ℕ = c.extend_from_slice-2.new.self.items in
    let e1 : t1 ≡ t0 ++ a1 = c.in_ok-extend_from_slice.ensures.items in
    let e2 : t2 ≡ t1 ++ a2 = c.in_ok-draw_full.ensures in
    let e3 : t3 ≡ t2 ++ a3 = c.in_ok-extend_from_slice-2.ensures.items in
    then t0 a1 (a2 ++ a3) t1 t3 e1 (then t1 a2 a3 t2 t3 e2 e3)
