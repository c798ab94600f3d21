use Rattle.std.proofs.Common.{◌≡◌, ap, arith, length}
use Rattle.heap_picture.specs.declared.reader.TextFault.{TextFault}
use Rattle.heap_picture.specs.declared.pictures.PictureFault.TheVariants as faults
use Rattle.heap_picture.specs.Runs.{text_fault}
use Rattle.heap_picture.proofs.Contents.{picture_in, fault_in, line_read}
use Rattle.heap_picture.proofs.pictures.picture_of_file.Goals as goal

pub read_run-requires : goal.read_run-requires
read_run-requires g c =
    let most = c.in_ok-text.ensures.most in
    let long = ap length c.deref.ensures.value in
    omega (arith, most, long)

pub returns-clause-ok : goal.returns-clause-ok
returns-clause-ok g c =
    picture_in _ c.deref.result.now c.in_ok-text.text.items _ _ _ c.deref.ensures.value c.in_ok-text.ensures.read c.in_ok-run.ensures c.in_ok-draw.ensures

pub returns-in_err-run-clause-line : goal.returns-in_err-run-clause-line
returns-in_err-run-clause-line g c n is =
    let fault : TextFault = c.in_err-run.field-0.0 in
    let made = rw is at c.from_residual-in_err-run.ensures in
    let same : faults.Line n ≡ text_fault fault = made.1 in
    fault_in _ c.deref.result.now c.in_ok-text.text.items n c.deref.ensures.value c.in_ok-text.ensures.read (line_read fault _ n same c.in_err-run.ensures)
