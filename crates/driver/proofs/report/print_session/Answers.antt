use Rattle.std.proofs.Common.{◌≡◌, ◌∙◌, ap, ap₂, ℕ, List, ◌++◌, length}
use Rattle.std.specs.Prelude.{codes, count_by}
use Rattle.std.specs.Fmt.{decimal}
use Rattle.trace_text.specs.Text.{ended}
use Rattle.ideal_heap.specs.Runs.{is_full}
use Rattle.sessions.specs.Plans.{plan_word}
use Rattle.driver.specs.Reports.{session_lines}
use Rattle.driver.proofs.Lines.{onto, if-ok}
use Rattle.driver.proofs.report.print_session.Goals as goal

pub returns : goal.returns
returns g c t last closes =
    let o : List ℕ = c.args.to.now.items in
    let n : ℕ = length t.traces in
    let line : List ℕ → ℕ → List ℕ = λ word k. ended (word ++ decimal k) in
    let pair : ℕ → ℕ → List ℕ = λ j k. ended (codes "collections nursery " ++ decimal j ++ codes " full " ++ decimal k) in
    let a1 : List ℕ = ended (codes "plan " ++ plan_word g.P.Plan.plan) in
    let a2 : List ℕ = a1 ++ line (codes "blocks ") last.heap.blocks in
    let a3 : List ℕ = a2 ++ line (codes "mutators ") n in
    let a4 : List ℕ = a3 ++ line (codes "commands ") (length last.done) in
    let a5 : List ℕ = a4 ++ line (codes "full ") (count_by (λ e. is_full e.reply) last.done) in
    let t1 : List ℕ = c.print_plan.new.to.items in
    let t2 : List ℕ = c.print_line.new.to.items in
    let t3 : List ℕ = c.print_line-2.new.to.items in
    let t4 : List ℕ = c.print_line-3.new.to.items in
    let t5 : List ℕ = c.print_line-4.new.to.items in
    let t6 : List ℕ = c.print_pair.new.to.items in
    let x1 : t1 ≡ o ++ a1 = c.in_ok-print_plan.ensures ∙ ap (λ w. o ++ ended (codes "plan " ++ w)) c.plan_name.ensures in
    let x2 : t2 ≡ t1 ++ line (codes "blocks ") last.heap.blocks = c.in_ok-print_line.ensures
    ∙ ap (λ k. t1 ++ line (codes "blocks ") k) (c.from.ensures ∙ c.blocks-2.ensures ∙ c.layout.ensures ∙ ap (λ h. h.blocks) (c.heap.ensures.session t last closes)) in
    let y2 : t2 ≡ o ++ a2 = onto o a1 (line (codes "blocks ") last.heap.blocks) t1 t2 x1 x2 in
    let x3 : t3 ≡ t2 ++ line (codes "mutators ") n = c.in_ok-print_line-2.ensures
    ∙ ap (λ k. t2 ++ line (codes "mutators ") k) (c.from-2.ensures ∙ c.mutators.ensures.traces t last closes) in
    let y3 : t3 ≡ o ++ a3 = onto o a2 (line (codes "mutators ") n) t2 t3 y2 x3 in
    let x4 : t4 ≡ t3 ++ line (codes "commands ") (length last.done) = c.in_ok-print_line-3.ensures
    ∙ ap (λ k. t3 ++ line (codes "commands ") k) (c.commands.ensures.session t last closes) in
    let y4 : t4 ≡ o ++ a4 = onto o a3 (line (codes "commands ") (length last.done)) t3 t4 y3 x4 in
    let x5 : t5 ≡ t4 ++ line (codes "full ") (count_by (λ e. is_full e.reply) last.done) = c.in_ok-print_line-4.ensures
    ∙ ap (λ k. t4 ++ line (codes "full ") k) (c.refusals.ensures t last closes) in
    let y5 : t5 ≡ o ++ a5 = onto o a4 (line (codes "full ") (count_by (λ e. is_full e.reply) last.done)) t4 t5 y4 x5 in
    let made = c.collections-nursery.ensures.session t last closes in
    if-ok c.print_pair.result (t6 ≡ t5 ++ pair c.collections-nursery.result.0 c.collections-nursery.result.1)
    (t6 ≡ o ++ session_lines g.P.Plan.plan n last) (λ last_line.
    onto o a5 (pair last.nursery last.full) t5 t6 y5 (last_line ∙ ap₂ (λ (j k : ℕ). t5 ++ pair j k) made.0 made.1))
    c.print_pair.ensures
