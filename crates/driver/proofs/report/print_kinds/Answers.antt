use Rattle.std.proofs.Common.{◌≡◌, ◌∙◌, ap, ℕ, List, ◌++◌}
use Rattle.std.specs.Prelude.{codes}
use Rattle.std.specs.Fmt.{decimal}
use Rattle.trace_text.specs.Text.{ended}
use Rattle.heap_layout.specs.declared.block.Kind.TheVariants as kinds
use Rattle.object_model.specs.Heaps.{heap_state}
use Rattle.object_model.specs.Counting.{kind_count}
use Rattle.sessions.specs.Fitting.{large_of}
use Rattle.driver.specs.Texts.{kinds_line}
use Rattle.driver.proofs.Lines.{part-onto, last-onto, if-ok}
use Rattle.driver.proofs.report.print_kinds.Goals as goal

pub returns : goal.returns
returns c =
    let s = heap_state c.args.heap.now in
    let t : List ℕ = c.args.to.now.items in
    let d1 : List ℕ = decimal (kind_count s kinds.Free) in
    let d2 : List ℕ = decimal (kind_count s kinds.Bump) in
    let d3 : List ℕ = decimal (kind_count s kinds.Young) in
    let d4 : List ℕ = decimal (kind_count s kinds.Mature) in
    let d5 : List ℕ = decimal (kind_count s kinds.Immix) in
    let d6 : List ℕ = decimal (kind_count s kinds.Cells) in
    let d7 : List ℕ = decimal (large_of s) in
    let d8 : List ℕ = decimal (kind_count s kinds.Kept) in
    let t1 : List ℕ = c.print_part.new.to.items in
    let x1 : t1 ≡ t ++ (codes "kinds free " ++ d1) = c.in_ok-print_part.ensures ∙ ap (λ n. t ++ (codes "kinds free " ++ decimal n)) (c.from.ensures ∙ c.kind_count.ensures) in
    let a1 : List ℕ = codes "kinds free " ++ d1 in
    let t2 : List ℕ = c.print_part-2.new.to.items in
    let x2 : t2 ≡ t1 ++ (codes " bump " ++ d2) = c.in_ok-print_part-2.ensures ∙ ap (λ n. t1 ++ (codes " bump " ++ decimal n)) (c.from-2.ensures ∙ c.kind_count-2.ensures) in
    let a2 : List ℕ = a1 ++ codes " bump " ++ d2 in
    let y2 : t2 ≡ t ++ a2 = part-onto t a1 (codes " bump ") d2 t1 t2 x1 x2 in
    let t3 : List ℕ = c.print_part-3.new.to.items in
    let x3 : t3 ≡ t2 ++ (codes " young " ++ d3) = c.in_ok-print_part-3.ensures ∙ ap (λ n. t2 ++ (codes " young " ++ decimal n)) (c.from-3.ensures ∙ c.kind_count-3.ensures) in
    let a3 : List ℕ = a2 ++ codes " young " ++ d3 in
    let y3 : t3 ≡ t ++ a3 = part-onto t a2 (codes " young ") d3 t2 t3 y2 x3 in
    let t4 : List ℕ = c.print_part-4.new.to.items in
    let x4 : t4 ≡ t3 ++ (codes " mature " ++ d4) = c.in_ok-print_part-4.ensures ∙ ap (λ n. t3 ++ (codes " mature " ++ decimal n)) (c.from-4.ensures ∙ c.kind_count-4.ensures) in
    let a4 : List ℕ = a3 ++ codes " mature " ++ d4 in
    let y4 : t4 ≡ t ++ a4 = part-onto t a3 (codes " mature ") d4 t3 t4 y3 x4 in
    let t5 : List ℕ = c.print_part-5.new.to.items in
    let x5 : t5 ≡ t4 ++ (codes " immix " ++ d5) = c.in_ok-print_part-5.ensures ∙ ap (λ n. t4 ++ (codes " immix " ++ decimal n)) (c.from-5.ensures ∙ c.kind_count-5.ensures) in
    let a5 : List ℕ = a4 ++ codes " immix " ++ d5 in
    let y5 : t5 ≡ t ++ a5 = part-onto t a4 (codes " immix ") d5 t4 t5 y4 x5 in
    let t6 : List ℕ = c.print_part-6.new.to.items in
    let x6 : t6 ≡ t5 ++ (codes " cells " ++ d6) = c.in_ok-print_part-6.ensures ∙ ap (λ n. t5 ++ (codes " cells " ++ decimal n)) (c.from-6.ensures ∙ c.kind_count-6.ensures) in
    let a6 : List ℕ = a5 ++ codes " cells " ++ d6 in
    let y6 : t6 ≡ t ++ a6 = part-onto t a5 (codes " cells ") d6 t5 t6 y5 x6 in
    let t7 : List ℕ = c.print_part-7.new.to.items in
    let x7 : t7 ≡ t6 ++ (codes " large " ++ d7) = c.in_ok-print_part-7.ensures ∙ ap (λ n. t6 ++ (codes " large " ++ decimal n)) (c.from-7.ensures ∙ ap (λ x. x.large) c.block_counts.ensures) in
    let a7 : List ℕ = a6 ++ codes " large " ++ d7 in
    let y7 : t7 ≡ t ++ a7 = part-onto t a6 (codes " large ") d7 t6 t7 y6 x7 in
    let t8 : List ℕ = c.print_line.new.to.items in
    if-ok c.print_line.result (t8 ≡ t7 ++ ended (codes " kept " ++ decimal c.from-8.result)) (t8 ≡ t ++ kinds_line s) (λ last.
    let x8 : t8 ≡ t7 ++ ended (codes " kept " ++ d8) = last ∙ ap (λ n. t7 ++ ended (codes " kept " ++ decimal n)) (c.from-8.ensures ∙ c.kind_count-7.ensures) in
    last-onto t a7 (codes " kept ") d8 t7 t8 y7 x8)
    c.print_line.ensures
