use Rattle.std.proofs.Common.{refl, sym, ap, subst, Err}
use Rattle.heap_picture.specs.Asked.{asked_seen}
use Rattle.heap_picture.specs.Runs.{Showed}
use Rattle.heap_picture.proofs.Ends.{fault_ended}
use Rattle.heap_picture.proofs.runs.show.Goals as goal

pub returns-in-Err : goal.returns-in-Err
returns-in-Err g c =
    let asked = asked_seen c.args.asked in
    let s = g.S.Sources in
    let o = g.O.Sink in
    let e = g.E.Sink in
    let files = s.state c.args.sources.now in
    let read = s.state c.picture_of_file.new.sources in
    let out = o.state c.args.out.now in
    let err = e.state c.args.err.now in
    let said = e.state c.write_picture_fault.new.err in
    subst (Showed asked files read out out err said) (sym c.status.ensures)
    (fault_ended asked files read out out err said c.in-Err.fault (λ is. c.in-Err.ensures.unread (ap Err is)) (λ is. c.in-Err.ensures.too_long (ap Err is)) (λ n is. c.in-Err.ensures.line n (ap Err is)) refl c.write_picture_fault.ensures)
