-- How a run ends.
use Rattle.std.proofs.Common.{◌≡◌, refl, ℕ, inr, Option, Some, None, Err}
use Rattle.std.specs.Prelude.{IfSome}
use Rattle.outside.specs.Outside.{SinkState, SourceState, HasRisen}
use Rattle.driver.specs.Printed.{WritesFaultLine}
use Rattle.driver.specs.declared.status.Status.TheVariants as status
use Rattle.heap_picture.specs.Asked.{Asked}
use Rattle.heap_picture.specs.Reading.{text_read}
use Rattle.heap_picture.specs.declared.pictures.PictureFault.{PictureFault}
use Rattle.heap_picture.specs.declared.pictures.PictureFault.TheVariants as faults
use Rattle.heap_picture.specs.Runs.{IsEnd, IsTooLong, Ran, Showed, fault_line, memory_line, status_of}

module _ (a : Asked) (files files' : SourceState) (out out' err err' : SinkState) where
  pub fault_ended : (fault : PictureFault) → (fault ≡ faults.Unread → HasRisen files.faults files'.faults)
      → (fault ≡ faults.TooLong → IfSome (files.content a.file) IsTooLong)
      → ((n : ℕ) → fault ≡ faults.Line n → IfSome (files.content a.file) (λ bytes. text_read bytes ≡ Err n))
      → out' ≡ out → WritesFaultLine err err' (fault_line a.file fault) → Showed a files files' out out' err err' (status_of fault)
  fault_ended faults.Unread unread long bad same line = (unread refl, same, line)
  fault_ended faults.TooLong unread long bad same line = (long refl, same, line)
  fault_ended (faults.Line n) unread long bad same line = (record { at = n; read = bad n refl; line = line }, same)
  fault_ended faults.OutOfMemory unread long bad same line = (same, line)

pub starved : (asked : Option Asked) → IsEnd asked status.OutOfMemory
starved asked = record { none = λ is. absurd (let wrong : status.OutOfMemory ≡ status.Usage = is in cc); usage = λ _. inr refl }

pub starved_ran : (asked : Option Asked) (files files' : SourceState) (out out' err err' : SinkState) → out' ≡ out → WritesFaultLine err err' memory_line
    → Ran asked files files' out out' err err' status.OutOfMemory
starved_ran None files files' out out' err err' same line = inr (record { status_is = refl; unwritten = same; line = line })
starved_ran (Some a) files files' out out' err err' same line = (same, line)
