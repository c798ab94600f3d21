use Rattle.std.proofs.Common.{◌≡◌, ◌∙◌, ap, ℕ, List, ◌++◌, length}
use Rattle.std.specs.Prelude.{codes}
use Rattle.std.specs.Fmt.{decimal}
use Rattle.trace_text.specs.Text.{ended}
use Rattle.object_model.specs.Heaps.{heap_state}
use Rattle.driver.specs.Texts.{live_line}
use Rattle.driver.proofs.Lines.{if-ok}
use Rattle.driver.proofs.report.print_live.Goals as goal

pub returns : goal.returns
returns c =
    let live : List ℕ = c.args.live.now in
    let t : List ℕ = c.args.to.now.items in
    let t1 : List ℕ = c.print_pair.new.to.items in
    let pair : ℕ → ℕ → List ℕ = λ n m. ended (codes "live objects " ++ decimal n ++ codes " words " ++ decimal m) in
    if-ok c.print_pair.result (t1 ≡ t ++ pair (length live) c.words_at.result) (t1 ≡ t ++ live_line (heap_state c.args.heap.now) live) (λ line.
    line ∙ ap (λ (m : ℕ). t ++ pair (length live) m) c.words_at.ensures)
    c.print_pair.ensures
