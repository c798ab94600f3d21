use Rattle.std.proofs.Common.{rules, sym, ◌∙◌, ap, subst, ℕ, List, Err}
use Rattle.std.proofs.lemmas.Result.{err_from_is_err_and}
use Rattle.driver.specs.Texts.{IsSummary}
use Rattle.driver.specs.Writing.{WritesTextBy}
use Rattle.driver.proofs.session_runs.write_summary.Goals as goal

pub returns-in_err-write_text-clause-text : goal.returns-in_err-write_text-clause-text
returns-in_err-write_text-clause-text g c t last closes =
    let s = g.O.Sink in
    let n = c.args.commands in
    let whole : IsSummary n last c.deref.result.now = subst (λ (l : List ℕ). IsSummary n last l) (sym c.deref.ensures.value) (c.in_ok-text.ensures t last closes) in
    let p = err_from_is_err_and c.from_residual-in_err-write_text.result c.from_residual-in_err-write_text.ensures.1 in
    subst (λ r. WritesTextBy (IsSummary n last) (s.state c.args.out.now) (s.state c.write_text.new.out) r) (sym (p.1 ∙ ap Err p.2))
    (c.deref.result.now, whole, c.in_err-write_text.ensures.prefix, search rules)

pub returns-clause-text : goal.returns-clause-text
returns-clause-text g c t last closes =
    let n = c.args.commands in
    let whole : IsSummary n last c.deref.result.now = subst (λ (l : List ℕ). IsSummary n last l) (sym c.deref.ensures.value) (c.in_ok-text.ensures t last closes) in
    (c.deref.result.now, whole, c.in_ok-write_text.ensures.ok)
