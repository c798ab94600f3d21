use Rattle.std.proofs.Common.{◌≡◌, ◌∙◌, ◌+◌, ◌*◌, sym, ap, ℕ, arith, rules}
use Rattle.heap_layout.specs.declared.block.Kind.TheVariants as kinds
use Rattle.object_model.specs.Objects.{cell_words}
use Rattle.sessions.specs.Fitting.{class_for}
use Rattle.racing_mutator.proofs.racing.Racing.rest_after.Goals as goal

pub next_cell-requires-clause-from : goal.next_cell-requires-clause-from
next_cell-requires-clause-from g c =
    let fill : g.P.Plan.rules.fill ≡ kinds.Cells = search rules in
    let class : ℕ = class_for g.P.Plan.rules.fill c.args.size in
    let is = c.requires.cell fill in
    let start : c.args.region.now.next ≡ is.index * cell_words class = is.start in
    let end : c.args.region.now.end ≡ c.args.region.now.next + cell_words class = is.end in
    let more : (is.index + 1) * cell_words class ≡ is.index * cell_words class + cell_words class = omega arith in
    let same : c.class_for.result ≡ class = c.class_for.ensures in
    (is.index + 1, end ∙ ap (λ (n : ℕ). n + cell_words class) start ∙ sym more ∙ ap (λ (q : ℕ). (is.index + 1) * cell_words q) (sym same))
