use Rattle.std.proofs.Common.{◌≡◌, ◌∙◌, ap, ap₂, ℕ, List, ◌++◌}
use Rattle.std.specs.Prelude.{codes}
use Rattle.std.specs.Fmt.{decimal}
use Rattle.trace_text.specs.Text.{ended}
use Rattle.object_model.specs.Heaps.{heap_state}
use Rattle.driver.specs.Texts.{live_line, held_line}
use Rattle.driver.proofs.Lines.{if-ok}
use Rattle.driver.proofs.report.print_objects.Goals as goal

pub returns : goal.returns
returns c =
    let s = heap_state c.args.heap.now in
    let live = c.args.live.now in
    let t : List ℕ = c.args.to.now.items in
    let t1 : List ℕ = c.print_live.new.to.items in
    let t2 : List ℕ = c.print_pair.new.to.items in
    let pair : ℕ → ℕ → List ℕ = λ n m. ended (codes "held objects " ++ decimal n ++ codes " words " ++ decimal m) in
    let x1 : t1 ≡ t ++ live_line s live = c.in_ok-print_live.ensures in
    if-ok c.print_pair.result (t2 ≡ t1 ++ pair c.from.result c.held_count-objects.result.1)
    (t2 ≡ t ++ live_line s live ++ held_line s) (λ last.
    let x2 : t2 ≡ t1 ++ held_line s = last
    ∙ ap₂ (λ (n m : ℕ). t1 ++ pair n m) (c.from.ensures ∙ c.held_count-objects.ensures.objects) c.held_count-objects.ensures.words in
    x2 ∙ ap (λ l. l ++ held_line s) x1)
    c.print_pair.ensures
