use Rattle.std.proofs.Common.{◌≡◌, ◌∙◌, ap, ℕ, List, ◌++◌}
use Rattle.driver.specs.Texts.{counts_part}
use Rattle.driver.proofs.Lines.{if-ok}
use Rattle.driver.proofs.Summaries.{counted, first_lines, middle_line, last_lines}
use Rattle.driver.proofs.summary.print_counts.Goals as goal

pub returns : goal.returns
returns c replies are =
    let counts = c.args.counts.now in
    let o : List ℕ = c.args.to.now.items in
    let n : ℕ = c.args.commands in
    let t1 : List ℕ = c.print_lines.new.to.items in
    let t2 : List ℕ = c.print_pair.new.to.items in
    let t3 : List ℕ = c.print_lines-2.new.to.items in
    let x1 : t1 ≡ o ++ first_lines n counts = c.in_ok-print_lines.ensures ∙ ap (λ k. o ++ first_lines k counts) c.from.ensures in
    let x2 : t2 ≡ t1 ++ middle_line counts = c.in_ok-print_pair.ensures in
    if-ok c.print_lines-2.result (t3 ≡ t2 ++ last_lines counts) (t3 ≡ o ++ counts_part n replies)
    (λ x3. counted o n counts replies t1 t2 t3 are x1 x2 x3) c.print_lines-2.ensures
