use Rattle.std.proofs.Common.{sym, subst, ap, ℕ, List, []}
use Rattle.std.specs.Prelude.{unwrap_or}
use Rattle.driver.specs.Printed.{WritesFaultLine, unread_line, long_line, fault_line}
use Rattle.driver.proofs.runs.write_files_fault.Goals as goal

pub returns-in-Unread : goal.returns-in-Unread
returns-in-Unread g c =
    let e = g.E.Sink in
    rw c.in-Unread.is (subst (λ (x : List ℕ). WritesFaultLine (e.state c.args.err.now) (e.state c.write_read_fault.new.err) (unread_line x)) (sym (ap (λ o. unwrap_or o []) c.name_at.ensures)) c.write_read_fault.ensures)

pub returns-in-TooLong : goal.returns-in-TooLong
returns-in-TooLong g c =
    let e = g.E.Sink in
    rw c.in-TooLong.is (subst (λ (x : List ℕ). WritesFaultLine (e.state c.args.err.now) (e.state c.write_length_fault.new.err) (long_line x)) (sym (ap (λ o. unwrap_or o []) c.name_at-in-TooLong.ensures)) c.write_length_fault.ensures)

pub returns-in-Bad : goal.returns-in-Bad
returns-in-Bad g c =
    let e = g.E.Sink in
    rw c.in-Bad.is (subst (λ (x : List ℕ). WritesFaultLine (e.state c.args.err.now) (e.state c.write_trace_fault.new.err) (fault_line x c.in-Bad.fault)) (sym (ap (λ o. unwrap_or o []) c.name_at-in-Bad.ensures)) c.write_trace_fault.ensures)
