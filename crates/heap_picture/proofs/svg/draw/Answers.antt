use Rattle.std.proofs.Common.{◌≡◌, ◌∙◌, ap, ℕ, List, ◌++◌}
use Rattle.std.specs.Prelude.{codes}
use Rattle.std.specs.List.{flat_map}
use Rattle.heap_picture.specs.declared.svg.TheConstants.{LEGEND}
use Rattle.heap_picture.specs.Drawn.{bar_text, block_colour, cells_text, counts_text, head_text, kinds_text, plan_text}
use Rattle.heap_picture.proofs.Appends.{then}
use Rattle.heap_picture.proofs.svg.draw.Goals as goal

pub returns : goal.returns
returns c =
    let run = c.args.run.now in
    let r = run.report in
    let t0 : List ℕ = c.new-text.result.items in
    let a1 : List ℕ = head_text r.blocks in
    let a2 : List ℕ = plan_text r in
    let a3 : List ℕ = counts_text r in
    let a4 : List ℕ = kinds_text r.kinds in
    let a5 : List ℕ = LEGEND.now in
    let a6 : List ℕ = cells_text r.blocks in
    let a7 : List ℕ = flat_map (bar_text c.args.names (block_colour r.kinds)) run.places.items.items in
    let a8 : List ℕ = codes "</g></svg>\n" in
    let t1 : List ℕ = c.draw_head.new.to.items in
    let t2 : List ℕ = c.draw_plan.new.to.items in
    let t3 : List ℕ = c.draw_counts.new.to.items in
    let t4 : List ℕ = c.draw_kinds.new.to.items in
    let t5 : List ℕ = c.extend_from_slice.new.self.items in
    let t6 : List ℕ = c.draw_cells.new.to.items in
    let t7 : List ℕ = c.draw_objects.new.to.items in
    let t8 : List ℕ = c.extend_from_slice-2.new.self.items in
    let e1 : t1 ≡ t0 ++ a1 = c.in_ok-draw_head.ensures in
    let e2 : t2 ≡ t1 ++ a2 = c.in_ok-draw_plan.ensures in
    let e3 : t3 ≡ t2 ++ a3 = c.in_ok-draw_counts.ensures in
    let e4 : t4 ≡ t3 ++ a4 = c.in_ok-draw_kinds.ensures in
    let e5 : t5 ≡ t4 ++ a5 = c.in_ok-extend_from_slice.ensures.items in
    let e6 : t6 ≡ t5 ++ a6 = c.in_ok-draw_cells.ensures in
    let e7 : t7 ≡ t6 ++ a7 = c.in_ok-draw_objects.ensures ∙ ap (λ b. t6 ++ flat_map (bar_text c.args.names b) c.deref.result.now) c.block_colour.ensures ∙ ap (λ ps. t6 ++ flat_map (bar_text c.args.names (block_colour r.kinds)) ps) c.deref.ensures.value in
    let e8 : t8 ≡ t7 ++ a8 = c.in_ok-extend_from_slice-2.ensures.items in
    let f2 = then t0 a1 a2 t1 t2 e1 e2 in
    let f3 = then t0 (a1 ++ a2) a3 t2 t3 f2 e3 in
    let f4 = then t0 (a1 ++ a2 ++ a3) a4 t3 t4 f3 e4 in
    let f5 = then t0 (a1 ++ a2 ++ a3 ++ a4) a5 t4 t5 f4 e5 in
    let f6 = then t0 (a1 ++ a2 ++ a3 ++ a4 ++ a5) a6 t5 t6 f5 e6 in
    let f7 = then t0 (a1 ++ a2 ++ a3 ++ a4 ++ a5 ++ a6) a7 t6 t7 f6 e7 in
    let f8 = then t0 (a1 ++ a2 ++ a3 ++ a4 ++ a5 ++ a6 ++ a7) a8 t7 t8 f7 e8 in
    f8 ∙ ap (λ l. l ++ (a1 ++ a2 ++ a3 ++ a4 ++ a5 ++ a6 ++ a7 ++ a8)) c.new-text.ensures.items
