use Rattle.std.proofs.Common.{sym, ap, subst, ◌≤◌, length}
use Rattle.command_line.specs.Orders.{texts, work_in}
use Rattle.driver.specs.Printed.{AreTraces, IsWithinLimits}
use Rattle.driver.proofs.OneTrace.{trace-number}
use Rattle.driver.proofs.Outcomes.{on-ok}
use Rattle.driver.proofs.traces.traces_of_order.Goals as goal

pub returns-in-Files-clause-few : goal.returns-in-Files-clause-few
returns-in-Files-clause-few g c =
    let content = (g.S.Sources.state c.args.sources.now).content in
    let files = texts c.in-Files.files.now in
    let within = subst IsWithinLimits (ap work_in c.in-Files.is) c.requires in
    on-ok c.traces_of_files.result (λ v. AreTraces content files v.items) (λ v. length v.items ≤ 16)
    (λ v are. subst (λ n. n ≤ 16) (sym (trace-number content files v.items are)) within.1)
    c.traces_of_files.ensures.ok
