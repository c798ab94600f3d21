use Rattle.std.proofs.Common.{◌≡◌, sym, ◌∙◌, ap, subst, ℕ, List, ◌++◌, length}
use Rattle.driver.specs.Texts.{IsReport, IsSessionText, replies_part}
use Rattle.driver.proofs.Outcomes.{with-replies}
use Rattle.driver.proofs.report.session_text.Goals as goal

pub returns : goal.returns
returns g c t last closes =
    let n : ℕ = length t.traces in
    let report : List ℕ = c.in_ok-report.report.items in
    let is : IsReport g.P.Plan.plan n c.args.has_map last report = c.in_ok-report.ensures t last closes in
    let text : c.extend_from_slice.new.self.items ≡ replies_part n last ++ report = c.in_ok-extend_from_slice.ensures.items
    ∙ ap (λ (l : List ℕ). l ++ c.deref.result.now) (c.in_ok-text.ensures t last closes)
    ∙ ap (λ (l : List ℕ). replies_part n last ++ l) c.deref.ensures.value in
    subst (λ (l : List ℕ). IsSessionText g.P.Plan.plan n c.args.has_map last l) (sym text) (with-replies g.P.Plan.plan n c.args.has_map last report is)
