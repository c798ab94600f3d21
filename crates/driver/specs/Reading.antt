-- How far the reading of files has come, and why it ended.
use Rattle.std.specs.Prelude.{◌≡◌, ◌⊎◌, ℕ, ◌<◌, ◌≤◌, Result, Ok, Err, List, [], ◌∷◌, ◌++◌, suc, slice_get, unwrap_or}
use Rattle.outside.specs.Outside.{Asked, SourceState, HasRisen}
use Rattle.outside.specs.declared.reader.ReadFault.{ReadFault}
use Rattle.outside.specs.declared.reader.ReadFault.TheVariants as read
use Rattle.trace_text.specs.declared.fault.TraceFault.{TraceFault}
use Rattle.trace_text.specs.declared.fault.TraceFault.TheVariants as text
use Rattle.driver.specs.declared.status.Status.{Status}
use Rattle.driver.specs.declared.status.Status.TheVariants as status
use Rattle.driver.specs.declared.traces.FileFault.{FileFault}
use Rattle.driver.specs.declared.traces.FileFault.TheVariants as file
use Rattle.driver.specs.declared.traces.FilesFault.{FilesFault}
use Rattle.driver.specs.Printed.{AsksFirst, EndsAtFile, IsAny, IsLong, HasFault, unread_line, long_line, fault_line}
use Rattle.driver.specs.Printed.{memory_line}

-- why a file that was not read has no trace
abbrev pub reading_fault : ReadFault → FileFault
reading_fault read.Failed = file.Unread
reading_fault read.TooLong = file.TooLong
reading_fault read.OutOfMemory = file.OutOfMemory

-- why a file whose text was read has no trace
abbrev pub text_fault : TraceFault → FileFault
text_fault (text.Line n w) = file.Bad (text.Line n w)
text_fault text.TooMany = file.Bad text.TooMany
text_fault text.OutOfMemory = file.OutOfMemory

-- This name is asked for, after all earlier ones. If memory ran out, it may not have been.
abbrev pub AsksName : {X : Type 0} → Result X FileFault → List ℕ → SourceState
    → SourceState → Type 0
AsksName (Ok x) name before after = after.asked ≡ before.asked ++ (name, before.faults) ∷ []
AsksName (Err file.Unread) name before after =
    after.asked ≡ before.asked ++ (name, before.faults) ∷ []
AsksName (Err file.TooLong) name before after =
    after.asked ≡ before.asked ++ (name, before.faults) ∷ []
AsksName (Err (file.Bad f)) name before after =
    after.asked ≡ before.asked ++ (name, before.faults) ∷ []
AsksName (Err file.OutOfMemory) name before after =
    (after.asked ≡ before.asked ++ (name, before.faults) ∷ [])
    ⊎ (after.asked ≡ before.asked)

-- File k, of this name, could not be read: it was asked for last, and the count of faults has risen
-- since.
pub record IsUnread (names : List (List ℕ)) (k : ℕ) (name : List ℕ) (before after : SourceState)
    : Type 0 where
  pub earlier : Asked
  pub prefix : AsksFirst k names before.asked earlier
  pub count : ℕ
  pub last : after.asked ≡ earlier ++ (name, count) ∷ []
  pub since : before.faults ≤ count
  pub risen : HasRisen count after.faults

-- Reading ends at file k. It was asked for last, and its content has the fault. Nothing is said of
-- where memory runs out.
abbrev pub HaltsAt : List (List ℕ) → SourceState → SourceState → ℕ → FileFault → Type 0
HaltsAt names before after k file.Unread = (at : EndsAtFile before.content names k IsAny)
    × IsUnread names k at.file before after
HaltsAt names before after k file.TooLong = EndsAtFile before.content names k IsLong
    × AsksFirst (suc k) names before.asked after.asked
HaltsAt names before after k (file.Bad f) = EndsAtFile before.content names k (HasFault f)
    × AsksFirst (suc k) names before.asked after.asked
HaltsAt names before after k file.OutOfMemory = Unit {0}

abbrev pub Halts : List (List ℕ) → SourceState → SourceState → FilesFault → Type 0
Halts names before after f = HaltsAt names before after f.place f.fault

-- the status of a run that a fault ends
abbrev pub status_of : FileFault → Status
status_of file.Unread = status.ReadFault
status_of file.TooLong = status.TooLong
status_of (file.Bad f) = status.BadTrace
status_of file.OutOfMemory = status.OutOfMemory

-- the name of the file with this index
abbrev pub file_name_in : List (List ℕ) → ℕ → List ℕ
file_name_in names k = unwrap_or (slice_get names k) []

-- the line on standard error for a fault of the file with this name
abbrev pub line_of_fault : List ℕ → FileFault → List ℕ
line_of_fault name file.Unread = unread_line name
line_of_fault name file.TooLong = long_line name
line_of_fault name (file.Bad f) = fault_line name f
line_of_fault name file.OutOfMemory = memory_line

abbrev pub fault_line_of : List (List ℕ) → FilesFault → List ℕ
fault_line_of names f = line_of_fault (file_name_in names f.place) f.fault

-- the file at fault is one of n, unless memory ran out
abbrev pub IsOneOf : ℕ → FilesFault → Type 0
IsOneOf n f = (f.fault ≡ file.OutOfMemory) ⊎ (f.place < n)
