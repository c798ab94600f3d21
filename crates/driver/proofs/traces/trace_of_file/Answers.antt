use Rattle.std.proofs.Common.{◌≡◌, sym, subst, Ok, Err, List, []}
use Rattle.ideal_heap.specs.declared.command.Command.{Command}
use Rattle.trace_text.specs.declared.fault.TraceFault.{TraceFault}
use Rattle.trace_text.specs.Grammar.{Gives, trace}
use Rattle.driver.specs.declared.traces.FileFault.TheVariants as file
use Rattle.driver.specs.Reading.{text_fault}
use Rattle.driver.proofs.JoinedFiles.{trace-in, fault-in}
use Rattle.driver.proofs.Ends.{bad-from, bad-text, not-memory}
use Rattle.driver.proofs.traces.trace_of_file.Goals as goal

pub returns-clause-ok : goal.returns-clause-ok
returns-clause-ok g c =
    let all = c.in_ok-read_file.ensures.taken [] c.new.ensures in
    trace-in (Ok c.in_ok-finish.field-0) _ all.0 all.1 all.3 (c.in_ok-finish.ensures.text all.0 all.2)

pub returns-in_err-finish-clause-bad : goal.returns-in_err-finish-clause-bad
returns-in_err-finish-clause-bad g c f is =
    let all = c.in_ok-read_file.ensures.taken [] c.new.ensures in
    let fault : TraceFault = c.in_err-finish.field-0.0 in
    let made = rw is at c.from_residual-in_err-finish.ensures in
    let same : file.Bad f ≡ text_fault fault = made.1 in
    let read = c.in_err-finish.ensures.text all.0 all.2 in
    let other = not-memory fault f (sym same) in
    fault-in f _ all.0 all.1 all.3 (bad-text f (trace all.0) other (subst (λ (x : TraceFault). Gives (λ (v : List Command). v) (Err x) (trace all.0)) (bad-from fault f (sym same)) read)) other

pub returns-clause-fit : goal.returns-clause-fit
returns-clause-fit g c =
    let all = c.in_ok-read_file.ensures.taken [] c.new.ensures in
    record {
      valid = c.in_ok-finish.ensures.valid all.0 all.2;
      few = c.in_ok-finish.ensures.few all.0 all.2;
    }
