use Rattle.std.proofs.Common.{◌≡◌, sym, ◌∙◌, subst, ℕ, List}
use Rattle.std.specs.Prelude.{◌⊎◌}
use Rattle.command_line.specs.Orders.{texts, job_of_order}
use Rattle.driver.specs.declared.status.Status.TheVariants as status
use Rattle.driver.specs.Printed.{job_files, WritesFaultLine}
use Rattle.driver.proofs.Ends.{one-of, not-ok, not-usage, not-unwritten, unread-end, long-end, bad-end, memory-end, long-status, bad-status, good-status}
use Rattle.driver.proofs.Jobs.{job-blocks, job-work, job-workers}
use Rattle.driver.proofs.JoinedFiles.{long-off, bad-off}
use Rattle.driver.proofs.Outcomes.{of-job, named-job, traces-clash-of}
use Rattle.driver.proofs.runs.run.Goals as goal

pub write_files_fault-requires : goal.write_files_fault-requires
write_files_fault-requires g c =
    let s = g.S.Sources in
    one-of c.files_named-files.result.now (s.state c.args.sources.now) (s.state c.traces_of_order.new.sources) c.in-Err-traces_of_order.first (rw c.files_named-files.ensures c.in-Err-traces_of_order.ensures.fault)

pub returns-in-Err-traces_of_order-clause-ok : goal.returns-in-Err-traces_of_order-clause-ok
returns-in-Err-traces_of_order-clause-ok g c is = absurd (not-ok c.in-Err-traces_of_order.first.fault (sym c.status.ensures ∙ is))

pub returns-in-Err-traces_of_order-clause-usage : goal.returns-in-Err-traces_of_order-clause-usage
returns-in-Err-traces_of_order-clause-usage g c is = absurd (not-usage c.in-Err-traces_of_order.first.fault (sym c.status.ensures ∙ is))

pub returns-in-Err-traces_of_order-clause-write_fault : goal.returns-in-Err-traces_of_order-clause-write_fault
returns-in-Err-traces_of_order-clause-write_fault g c is = absurd (not-unwritten c.in-Err-traces_of_order.first.fault (sym c.status.ensures ∙ is))

pub returns-in-Err-traces_of_order-clause-write_reported : goal.returns-in-Err-traces_of_order-clause-write_reported
returns-in-Err-traces_of_order-clause-write_reported g c is = absurd (not-unwritten c.in-Err-traces_of_order.first.fault (sym c.status.ensures ∙ is))

pub returns-in-Err-traces_of_order-clause-silent : goal.returns-in-Err-traces_of_order-clause-silent
returns-in-Err-traces_of_order-clause-silent g c is = absurd (not-ok c.in-Err-traces_of_order.first.fault (sym c.status.ensures ∙ is))

pub returns-in-Err-traces_of_order-clause-read : goal.returns-in-Err-traces_of_order-clause-read
returns-in-Err-traces_of_order-clause-read g c is = absurd (not-ok c.in-Err-traces_of_order.first.fault (sym c.status.ensures ∙ is))

pub returns-in-Err-traces_of_order-clause-read_fault : goal.returns-in-Err-traces_of_order-clause-read_fault
returns-in-Err-traces_of_order-clause-read_fault g c is =
    let job = job_of_order c.in-Ok-Some.order in
    let named = named-job _ c.in-Ok-Some.order _ c.in-Ok-Some.field-0-is c.in-Ok-Some.ensures in
    let ends = c.in-Err-traces_of_order.ensures.fault in
    let line = rw c.files_named-files.ensures at c.write_files_fault.ensures in
    of-job _ job _ named (unread-end _ _ _ _ c.in-Err-traces_of_order.first ends line (sym c.status.ensures ∙ is))

pub returns-in-Err-traces_of_order-clause-too_long : goal.returns-in-Err-traces_of_order-clause-too_long
returns-in-Err-traces_of_order-clause-too_long g c is =
    let job = job_of_order c.in-Ok-Some.order in
    let named = named-job _ c.in-Ok-Some.order _ c.in-Ok-Some.field-0-is c.in-Ok-Some.ensures in
    let ends = c.in-Err-traces_of_order.ensures.fault in
    let line = rw c.files_named-files.ensures at c.write_files_fault.ensures in
    of-job _ job _ named (long-end _ _ _ _ c.in-Err-traces_of_order.first ends line (sym c.status.ensures ∙ is))

pub returns-in-Err-traces_of_order-clause-bad_trace : goal.returns-in-Err-traces_of_order-clause-bad_trace
returns-in-Err-traces_of_order-clause-bad_trace g c is =
    let job = job_of_order c.in-Ok-Some.order in
    let named = named-job _ c.in-Ok-Some.order _ c.in-Ok-Some.field-0-is c.in-Ok-Some.ensures in
    let ends = c.in-Err-traces_of_order.ensures.fault in
    let line = rw c.files_named-files.ensures at c.write_files_fault.ensures in
    of-job _ job _ named (bad-end _ _ _ _ c.in-Err-traces_of_order.first ends line (sym c.status.ensures ∙ is))

pub returns-in-Err-traces_of_order-clause-memory_reported : goal.returns-in-Err-traces_of_order-clause-memory_reported
returns-in-Err-traces_of_order-clause-memory_reported g c is =
    let line = rw c.files_named-files.ensures at c.write_files_fault.ensures in
    let e = g.E.Sink in
    memory-end (job_files (job_of_order c.in-Ok-Some.order)) (λ (l : List ℕ). WritesFaultLine (e.state c.args.err.now) (e.state c.write_files_fault.new.err) l) c.in-Err-traces_of_order.first line (sym c.status.ensures ∙ is)

pub returns-in-Err-traces_of_order-clause-long : goal.returns-in-Err-traces_of_order-clause-long
returns-in-Err-traces_of_order-clause-long g c =
    let job = job_of_order c.in-Ok-Some.order in
    let named = named-job _ c.in-Ok-Some.order _ c.in-Ok-Some.field-0-is c.in-Ok-Some.ensures in
    let ends = c.in-Err-traces_of_order.ensures.fault in
    of-job _ job _ named (λ at. subst (λ s. (s ≡ status.TooLong) ⊎ ((s ≡ status.ReadFault) ⊎ (s ≡ status.OutOfMemory))) (sym c.status.ensures) (long-status _ _ _ c.in-Err-traces_of_order.first.place c.in-Err-traces_of_order.first.fault ends at))

pub returns-in-Err-traces_of_order-clause-no_trace : goal.returns-in-Err-traces_of_order-clause-no_trace
returns-in-Err-traces_of_order-clause-no_trace g c =
    let job = job_of_order c.in-Ok-Some.order in
    let named = named-job _ c.in-Ok-Some.order _ c.in-Ok-Some.field-0-is c.in-Ok-Some.ensures in
    let ends = c.in-Err-traces_of_order.ensures.fault in
    of-job _ job _ named (λ at. subst (λ s. (s ≡ status.BadTrace) ⊎ ((s ≡ status.ReadFault) ⊎ (s ≡ status.OutOfMemory))) (sym c.status.ensures) (bad-status _ _ _ c.in-Err-traces_of_order.first.place c.in-Err-traces_of_order.first.fault ends at))

pub returns-in-Err-traces_of_order-clause-complete : goal.returns-in-Err-traces_of_order-clause-complete
returns-in-Err-traces_of_order-clause-complete g c =
    let job = job_of_order c.in-Ok-Some.order in
    let named = named-job _ c.in-Ok-Some.order _ c.in-Ok-Some.field-0-is c.in-Ok-Some.ensures in
    let ends = c.in-Err-traces_of_order.ensures.fault in
    of-job _ job _ named (λ good calm _. subst (λ s. (s ≡ status.Ok) ⊎ (s ≡ status.OutOfMemory)) (sym c.status.ensures) (good-status job _ _ c.in-Err-traces_of_order.first.place c.in-Err-traces_of_order.first.fault ends good calm))

pub write_text_of_session-requires-clause-some_worker : goal.write_text_of_session-requires-clause-some_worker
write_text_of_session-requires-clause-some_worker g c κs within = (job-workers (texts c.args.words.now) (job_of_order c.in-Ok-Some.order) (sym (named-job _ c.in-Ok-Some.order _ c.in-Ok-Some.field-0-is c.in-Ok-Some.ensures))).0

pub write_text_of_session-requires-clause-few_workers : goal.write_text_of_session-requires-clause-few_workers
write_text_of_session-requires-clause-few_workers g c κs within = (job-workers (texts c.args.words.now) (job_of_order c.in-Ok-Some.order) (sym (named-job _ c.in-Ok-Some.order _ c.in-Ok-Some.field-0-is c.in-Ok-Some.ensures))).1

pub write_text_of_session-requires-clause-least : goal.write_text_of_session-requires-clause-least
write_text_of_session-requires-clause-least g c κs within =
    (job-blocks (texts c.args.words.now) (job_of_order c.in-Ok-Some.order) (sym (named-job _ c.in-Ok-Some.order _ c.in-Ok-Some.field-0-is c.in-Ok-Some.ensures))).0

pub write_text_of_session-requires-clause-most : goal.write_text_of_session-requires-clause-most
write_text_of_session-requires-clause-most g c κs within =
    (job-blocks (texts c.args.words.now) (job_of_order c.in-Ok-Some.order) (sym (named-job _ c.in-Ok-Some.order _ c.in-Ok-Some.field-0-is c.in-Ok-Some.ensures))).1

pub traces_of_order-requires : goal.traces_of_order-requires
traces_of_order-requires g c =
    let job = job_of_order c.in-Ok-Some.order in
    job-work (texts c.args.words.now) job (sym (named-job _ c.in-Ok-Some.order _ c.in-Ok-Some.field-0-is c.in-Ok-Some.ensures))

pub returns-in-Ok-write_text_of_session-clause-long : goal.returns-in-Ok-write_text_of_session-clause-long
returns-in-Ok-write_text_of_session-clause-long g c =
    let good = c.in-Ok.ensures.ok in
    of-job _ (job_of_order c.in-Ok-Some.order) _ (named-job _ c.in-Ok-Some.order _ c.in-Ok-Some.field-0-is c.in-Ok-Some.ensures) (λ at. absurd (traces-clash-of _ (job_of_order c.in-Ok-Some.order).work _ _ long-off good at))

pub returns-in-Ok-write_text_of_session-clause-no_trace : goal.returns-in-Ok-write_text_of_session-clause-no_trace
returns-in-Ok-write_text_of_session-clause-no_trace g c =
    let good = c.in-Ok.ensures.ok in
    of-job _ (job_of_order c.in-Ok-Some.order) _ (named-job _ c.in-Ok-Some.order _ c.in-Ok-Some.field-0-is c.in-Ok-Some.ensures) (λ at. absurd (traces-clash-of _ (job_of_order c.in-Ok-Some.order).work _ _ bad-off good at))

pub returns-in-Err-Unwritten-clause-long : goal.returns-in-Err-Unwritten-clause-long
returns-in-Err-Unwritten-clause-long g c =
    let good = c.in-Ok.ensures.ok in
    of-job _ (job_of_order c.in-Ok-Some.order) _ (named-job _ c.in-Ok-Some.order _ c.in-Ok-Some.field-0-is c.in-Ok-Some.ensures) (λ at. absurd (traces-clash-of _ (job_of_order c.in-Ok-Some.order).work _ _ long-off good at))

pub returns-in-Err-Unwritten-clause-no_trace : goal.returns-in-Err-Unwritten-clause-no_trace
returns-in-Err-Unwritten-clause-no_trace g c =
    let good = c.in-Ok.ensures.ok in
    of-job _ (job_of_order c.in-Ok-Some.order) _ (named-job _ c.in-Ok-Some.order _ c.in-Ok-Some.field-0-is c.in-Ok-Some.ensures) (λ at. absurd (traces-clash-of _ (job_of_order c.in-Ok-Some.order).work _ _ bad-off good at))
