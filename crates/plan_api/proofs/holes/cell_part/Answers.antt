use Rattle.std.proofs.Common.{◌≡◌, ℕ, sym, ◌∙◌, ap, subst, arith, Some, Option}
use Rattle.object_model.specs.Objects.{cell_words as words_of_class}
use Rattle.sessions.specs.Fitting.{class_of as class_of_size}
use Rattle.plan_api.proofs.Parts as parts
use Rattle.plan_api.proofs.holes.cell_part.Goals as goal

pub returns-then-class-view : goal.returns-then-class-view
returns-then-class-view c = λ s k view kind. parts.other-class s k c.args.view.now view c.args.from c.args.size (omega arith)
    (λ same. let e : ◌≡◌ {A = Option ℕ} (Some c.in_ok-class.class) (Some c.args.view.now.word.class) = c.in_ok-class.ensures.class ∙ same in c.if-class-view.true (cc))

pub returns : goal.returns
returns c = λ s k view kind.
    let words : c.cell_size.result ≡ words_of_class c.args.view.now.word.class = c.cell_size.ensures.words ∙ ap words_of_class c.if-class-view.false in
    let class : class_of_size c.args.size ≡ Some c.args.view.now.word.class = sym c.in_ok-class.ensures.class ∙ ap (λ (n : ℕ). Some n) c.if-class-view.false in
    parts.cells-hole s k c.args.view.now view c.args.from c.args.size (omega arith) class kind c.free_cell.result
    (subst (λ (n : ℕ). parts.FindsCell c.args.view.now n c.args.from c.free_cell.result) words c.free_cell.ensures)
