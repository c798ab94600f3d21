use Rattle.std.proofs.Common.{rules, sym, ◌∙◌, ap, subst, ℕ, List, ◌++◌, length, Err}
use Rattle.std.proofs.lemmas.Result.{err_from_is_err_and}
use Rattle.driver.specs.Texts.{IsReport, IsSessionText, replies_part}
use Rattle.driver.specs.Writing.{WritesTextBy}
use Rattle.driver.proofs.Outcomes.{with-replies}
use Rattle.driver.proofs.session_runs.write_files.Goals as goal

pub returns-in_err-write_session-clause-text : goal.returns-in_err-write_session-clause-text
returns-in_err-write_session-clause-text g c t last closes =
    let s = g.O.Sink in
    let n : ℕ = length t.traces in
    let plan = g.P.Plan.plan in
    let has_map = c.args.has_map in
    let report : List ℕ = c.in_ok-report.report.items in
    let is : IsReport plan n has_map last report = c.in_ok-report.ensures t last closes in
    let whole : IsSessionText plan n has_map last (replies_part n last ++ c.deref.result.now) =
    subst (λ (l : List ℕ). IsSessionText plan n has_map last (replies_part n last ++ l)) (sym c.deref.ensures.value) (with-replies plan n has_map last report is) in
    let p = err_from_is_err_and c.from_residual-in_err-write_session.result c.from_residual-in_err-write_session.ensures.1 in
    subst (λ r. WritesTextBy (IsSessionText plan n has_map last) (s.state c.args.out.now) (s.state c.write_session.new.out) r) (sym (p.1 ∙ ap Err p.2))
    (replies_part n last ++ c.deref.result.now, whole, c.in_err-write_session.ensures.prefix t last closes, search rules)

pub returns-clause-text : goal.returns-clause-text
returns-clause-text g c t last closes =
    let n : ℕ = length t.traces in
    let plan = g.P.Plan.plan in
    let has_map = c.args.has_map in
    let report : List ℕ = c.in_ok-report.report.items in
    let is : IsReport plan n has_map last report = c.in_ok-report.ensures t last closes in
    let whole : IsSessionText plan n has_map last (replies_part n last ++ c.deref.result.now) =
    subst (λ (l : List ℕ). IsSessionText plan n has_map last (replies_part n last ++ l)) (sym c.deref.ensures.value) (with-replies plan n has_map last report is) in
    (replies_part n last ++ c.deref.result.now, whole, c.in_ok-write_session.ensures.ok t last closes)
