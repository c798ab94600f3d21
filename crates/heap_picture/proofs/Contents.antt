-- From the text that was read to the content of the file.
use Rattle.std.proofs.Common.{◌≡◌, sym, ◌∙◌, ap, ℕ, List, Option, Some, None, Result, Ok, Err}
use Rattle.std.specs.Prelude.{IfSome}
use Rattle.heap_picture.specs.declared.reader.TextFault.{TextFault}
use Rattle.heap_picture.specs.declared.reader.TextFault.TheVariants as texts
use Rattle.heap_picture.specs.declared.pictures.PictureFault.{PictureFault}
use Rattle.heap_picture.specs.declared.pictures.PictureFault.TheVariants as faults
use Rattle.heap_picture.specs.Reading.{Begun, ReadsText, text_read}
use Rattle.heap_picture.specs.Drawn.{picture_text}
use Rattle.heap_picture.specs.Runs.{IsPictureOf, text_fault}

pub picture_in : (content : Option (List ℕ)) (text more picture : List ℕ) (s : Begun) (names : Option ℕ) → text ≡ more → IfSome content (λ known. more ≡ known)
    → text_read text ≡ Ok s → picture ≡ picture_text names s → IsPictureOf content names picture
picture_in None text more picture s names same known read is = tt
picture_in (Some bytes) text more picture s names same known read is = (s, ap text_read (sym (same ∙ known)) ∙ read, is)

pub fault_in : (content : Option (List ℕ)) (text more : List ℕ) (n : ℕ) → text ≡ more → IfSome content (λ known. more ≡ known)
    → text_read text ≡ Err n → IfSome content (λ bytes. text_read bytes ≡ Err n)
fault_in None text more n same known read = tt
fault_in (Some bytes) text more n same known read = ap text_read (sym (same ∙ known)) ∙ read

line_in : PictureFault → ℕ
line_in (faults.Line n) = n
line_in faults.Unread = 0
line_in faults.TooLong = 0
line_in faults.OutOfMemory = 0

pub line_read : (fault : TextFault) (read : Result Begun ℕ) (n : ℕ) → faults.Line n ≡ text_fault fault → ReadsText (Err fault) read → read ≡ Err n
unfolding line_in
line_read (texts.Line m) read n is reads = reads ∙ ap (λ f. Err (line_in f)) (sym is)
line_read texts.OutOfMemory read n is reads = absurd (let wrong : faults.Line n ≡ faults.OutOfMemory = is in cc)
