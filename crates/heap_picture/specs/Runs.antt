-- What a run of the program reads and writes.
use Rattle.std.specs.Prelude.{◌≡◌, ℕ, ◌<◌, ◌⊎◌, List, ◌++◌, Option, None, Some, IfSome, Ok, Err, codes, length}
use Rattle.std.specs.Fmt.{decimal}
use Rattle.std.specs.declared.io.ErrorKind.{ErrorKind}
use Rattle.std.specs.declared.io.ErrorKind.TheVariants as kinds
use Rattle.outside.specs.Outside.{SinkState, SourceState, HasRisen, AppendsText, AppendsPrefix}
use Rattle.outside.specs.declared.reader.ReadFault.{ReadFault}
use Rattle.outside.specs.declared.reader.ReadFault.TheVariants as read
use Rattle.heap_picture.specs.declared.text_files.TheConstants.{MAX_TEXT_BYTES}
use Rattle.driver.specs.declared.status.Status.{Status}
use Rattle.driver.specs.declared.status.Status.TheVariants as status
use Rattle.heap_picture.specs.declared.reader.TextFault.{TextFault}
use Rattle.heap_picture.specs.declared.reader.TextFault.TheVariants as texts
use Rattle.heap_picture.specs.declared.pictures.PictureFault.{PictureFault}
use Rattle.heap_picture.specs.declared.pictures.PictureFault.TheVariants as faults
use Rattle.driver.specs.Printed.{WritesFaultLine}
use Rattle.driver.specs.Statuses.{status_number}
use Rattle.heap_picture.specs.Asked.{Asked}
use Rattle.heap_picture.specs.Reading.{Begun, text_read}
use Rattle.heap_picture.specs.Drawn.{picture_text}

-- the picture of the run whose text is the content, if the content is known
abbrev pub IsPictureOf : Option (List ℕ) → Option ℕ → List ℕ → Type 0
IsPictureOf content names picture = IfSome content
    (λ bytes. (s : Begun) × (text_read bytes ≡ Ok s) × (picture ≡ picture_text names s))

-- the whole picture was written
pub record Shows (content : Option (List ℕ)) (names : Option ℕ) (before after : SinkState)
    : Type 0 where
  pub picture : List ℕ
  pub is : IsPictureOf content names picture
  pub written : AppendsText before.written after.written picture

-- a prefix of the picture was written, but not the whole, and the sink failed
pub record ShowsPrefix (content : Option (List ℕ)) (names : Option ℕ) (before after : SinkState)
    : Type 0 where
  pub picture : List ℕ
  pub is : IsPictureOf content names picture
  pub written : AppendsPrefix before.written after.written picture
  pub risen : HasRisen before.faults after.faults

-- the line on standard error where the arguments do not match the usage
abbrev pub usage_line : List ℕ
usage_line = codes "heap_view: usage: heap_view [--names M] FILE\n"

abbrev pub unread_line : List ℕ → List ℕ
unread_line file = codes "heap_view: cannot read " ++ (file ++ codes "\n")

abbrev pub long_line : List ℕ → List ℕ
long_line file = codes "heap_view: " ++ (file ++ codes " is longer than 500000000 bytes\n")

-- the line of the text that is not so
abbrev pub line_text : List ℕ → List ℕ → List ℕ
line_text file line = codes "heap_view: " ++ (file ++ (codes ": line " ++ (line
    ++ codes " is not of the text of a run with a map\n")))

abbrev pub bad_line : List ℕ → ℕ → List ℕ
bad_line file n = line_text file (decimal n)

abbrev pub write_line : List ℕ
write_line = codes "heap_view: write failed\n"

abbrev pub memory_line : List ℕ
memory_line = codes "heap_view: out of memory\n"

abbrev pub IsTooLong : List ℕ → Type 0
IsTooLong bytes = MAX_TEXT_BYTES < length bytes

-- why a file that was not read has no picture
abbrev pub reading_fault : ReadFault → PictureFault
reading_fault read.Failed = faults.Unread
reading_fault read.TooLong = faults.TooLong
reading_fault read.OutOfMemory = faults.OutOfMemory

-- why a text has no picture
abbrev pub text_fault : TextFault → PictureFault
text_fault (texts.Line n) = faults.Line n
text_fault texts.OutOfMemory = faults.OutOfMemory

-- the status of a run that a fault ends, and its line
abbrev pub status_of : PictureFault → Status
status_of faults.Unread = status.ReadFault
status_of faults.TooLong = status.TooLong
status_of (faults.Line n) = status.BadTrace
status_of faults.OutOfMemory = status.OutOfMemory

abbrev pub fault_line : List ℕ → PictureFault → List ℕ
fault_line file faults.Unread = unread_line file
fault_line file faults.TooLong = long_line file
fault_line file (faults.Line n) = bad_line file n
fault_line file faults.OutOfMemory = memory_line

-- the content, if it is known, is not a run's text, and the line names the first line that is not
-- so
pub record IsBadText (content : Option (List ℕ)) (file : List ℕ) (Writes : List ℕ → Type 0)
    : Type 0 where
  pub at : ℕ
  pub read : IfSome content (λ bytes. text_read bytes ≡ Err at)
  pub line : Writes (bad_line file at)

-- the arguments do not match the usage: no file is read
pub record Refused (files files' : SourceState) (out out' err err' : SinkState) (s : Status)
    : Type 0 where
  pub status_is : s ≡ status.Usage
  pub unread : files' ≡ files
  pub unwritten : out' ≡ out
  pub line : WritesFaultLine err err' usage_line

-- What holds where a run for these arguments ends with a status. Only Ok and WriteFault write to
-- the output.
abbrev pub Showed : Asked → SourceState → SourceState → SinkState → SinkState → SinkState
    → SinkState → Status → Type 0
Showed a files files' out out' err err' status.Ok =
    Shows (files.content a.file) a.names out out' × (err' ≡ err)
Showed a files files' out out' err err' status.Usage = ⊥
Showed a files files' out out' err err' status.ReadFault = HasRisen files.faults files'.faults
    × (out' ≡ out) × WritesFaultLine err err' (unread_line a.file)
Showed a files files' out out' err err' status.TooLong = IfSome (files.content a.file) IsTooLong
    × (out' ≡ out) × WritesFaultLine err err' (long_line a.file)
Showed a files files' out out' err err' status.BadTrace =
    IsBadText (files.content a.file) a.file (WritesFaultLine err err') × (out' ≡ out)
Showed a files files' out out' err err' status.WriteFault =
    ShowsPrefix (files.content a.file) a.names out out' × WritesFaultLine err err' write_line
Showed a files files' out out' err err' status.OutOfMemory =
    (out' ≡ out) × WritesFaultLine err err' memory_line

-- memory for the arguments ran out, and only the line on it was written
pub record IsStarved (out out' err err' : SinkState) (s : Status) : Type 0 where
  pub status_is : s ≡ status.OutOfMemory
  pub unwritten : out' ≡ out
  pub line : WritesFaultLine err err' memory_line

-- A run of the arguments: it is refused or starved where they do not match the usage, and shows the
-- picture or why there is none where they do.
abbrev pub Ran : Option Asked → SourceState → SourceState → SinkState → SinkState → SinkState
    → SinkState → Status → Type 0
Ran None files files' out out' err err' s =
    Refused files files' out out' err err' s ⊎ IsStarved out out' err err' s
Ran (Some a) files files' out out' err err' s = Showed a files files' out out' err err' s

-- the line on standard error if the system gives no arguments
abbrev pub refusal_line : ErrorKind → List ℕ
refusal_line kinds.OutOfMemory = memory_line
refusal_line _ = usage_line

-- The status is Usage only where the arguments do not match the usage, and there it is, unless
-- memory runs out.
pub record IsEnd (asked : Option Asked) (s : Status) : Type 0 where
  pub none : s ≡ status.Usage → asked ≡ None
  pub usage : asked ≡ None → (s ≡ status.Usage) ⊎ (s ≡ status.OutOfMemory)

-- the number of such a status
abbrev pub IsExit : Option Asked → ℕ → Type 0
IsExit asked n = (s : Status) × (n ≡ status_number s) × IsEnd asked s
