use Rattle.std.proofs.Common.{◌≡◌, refl, sym, ◌∙◌, ap, length}
use Rattle.sessions.specs.Plans.{rules_of}
use Rattle.sessions.specs.Sessions.{Setting}
use Rattle.command_line.specs.Orders.{job_of_order, work_in}
use Rattle.driver.specs.Texts.{IsSessionText, IsSummary}
use Rattle.driver.specs.Printed.{IsWholeText, setting_of}
use Rattle.driver.proofs.Outcomes.{writes-by, text-of-files, text-of-made}
use Rattle.driver.proofs.session_runs.write_under.Goals as goal

pub returns-in-Files-clause-text : goal.returns-in-Files-clause-text
returns-in-Files-clause-text g c plan blocks =
    let job = job_of_order c.args.order.now in
    let traces = c.args.traces.items in
    let n = length traces in
    let t : Setting = setting_of job traces in
    let rules : t.rules ≡ g.P.Plan.rules = ap rules_of plan ∙ sym (g.met.P.Plan g.world.𝓛 g.world.𝓜 g.world.𝓡 ((λ s x. x), (λ x. x), (λ x. x), λ x. x)).rules_are_of_plan in
    let whole = c.in_ok-manager.ensures.whole t rules blocks refl refl in
    writes-by c.write_files.result (IsSessionText g.P.Plan.plan n job.map whole.0) (IsWholeText job traces) _ _
    (λ v text. record {
      last = whole.0;
      whole = whole.1;
      text_is = text-of-files job _ g.P.Plan.plan n whole.0 v plan (ap work_in c.in-Files.is) text;
    })
    (c.write_files.ensures.text t whole.0 whole.2)

pub returns-clause-text : goal.returns-clause-text
returns-clause-text g c plan blocks =
    let job = job_of_order c.args.order.now in
    let traces = c.args.traces.items in
    let n = length traces in
    let t : Setting = setting_of job traces in
    let rules : t.rules ≡ g.P.Plan.rules = ap rules_of plan ∙ sym (g.met.P.Plan g.world.𝓛 g.world.𝓜 g.world.𝓡 ((λ s x. x), (λ x. x), (λ x. x), λ x. x)).rules_are_of_plan in
    let whole = c.in_ok-manager.ensures.whole t rules blocks refl refl in
    writes-by c.write_summary.result (IsSummary c.in-Made.commands whole.0) (IsWholeText job traces) _ _
    (λ v text. record {
      last = whole.0;
      whole = whole.1;
      text_is = text-of-made job c.in-Made.commands n whole.0 v (ap work_in c.in-Made.is) text;
    })
    (c.write_summary.ensures.text t whole.0 whole.2)
