use Rattle.std.proofs.Common.{◌≡◌, ◌∙◌, ap, ℕ, List, ◌++◌}
use Rattle.std.specs.Prelude.{codes}
use Rattle.std.specs.List.{flat_map}
use Rattle.heap_picture.specs.Bars.{bar_rects}
use Rattle.heap_picture.specs.Drawn.{bar_head, bar_text, bar_title, rect_text}
use Rattle.heap_picture.proofs.Appends.{then}
use Rattle.heap_picture.proofs.svg.draw_object.Goals as goal

pub returns : goal.returns
unfolding bar_text
returns c =
    let p = c.args.place.now in
    let t0 : List ℕ = c.args.to.now.items in
    let a1 : List ℕ = bar_head c.args.names c.args.blocks p in
    let a2 : List ℕ = flat_map rect_text (bar_rects p) in
    let a3 : List ℕ = bar_title p in
    let t1 : List ℕ = c.draw_bar_head.new.to.items in
    let t2 : List ℕ = c.draw_bar.new.to.items in
    let t3 : List ℕ = c.draw_bar_title.new.to.items in
    let e1 : t1 ≡ t0 ++ a1 = c.in_ok-draw_bar_head.ensures ∙ ap (λ class. t0 ++ (codes "<path class=\"" ++ (class ++ codes "\" d=\""))) c.bar_class.ensures in
    let e2 : t2 ≡ t1 ++ a2 = c.in_ok-draw_bar.ensures in
    let e3 : t3 ≡ t2 ++ a3 = c.in_ok-draw_bar_title.ensures in
    then t0 (a1 ++ a2) a3 t2 t3 (then t0 a1 a2 t1 t2 e1 e2) e3
