-- What a run reads and writes.
use Rattle.std.specs.Prelude.{◌≡◌, ◌≢◌, ℕ, ◌<◌, ◌≤◌, ◌⊎◌, List, [], ◌∷◌, ◌++◌, length, map, take, suc, slice_get}
use Rattle.std.specs.Prelude.{Option, None, Some, IfSome, IsErr, Ok, Err, codes}
use Rattle.std.specs.List.{AllByRecursion}
use Rattle.std.specs.Fmt.{decimal}
use Rattle.ideal_heap.specs.declared.command.Command.{Command}
use Rattle.trace_text.specs.declared.fault.Why.{Why}
use Rattle.trace_text.specs.declared.fault.Why.TheVariants as why
use Rattle.trace_text.specs.declared.fault.TraceFault.{TraceFault}
use Rattle.trace_text.specs.declared.fault.TraceFault.TheVariants.{Line, TooMany, OutOfMemory}
use Rattle.trace_text.specs.Grammar.{trace}
use Rattle.sessions.specs.Plans.{rules_of}
use Rattle.sessions.specs.Sessions.{Setting, Moment, IsWhole}
use Rattle.command_line.specs.Words.{Job, Work, Files, Made}
use Rattle.outside.specs.Outside.{Asked, SourceState, SinkState, HasRisen, AppendsText, AppendsPrefix}
use Rattle.ideal_heap.specs.declared.command.TheConstants.{MAX_MUTATORS}
use Rattle.trace_text.specs.declared.limits.TheConstants.{MAX_COMMANDS}
use Rattle.outside.specs.declared.reader.TheConstants.{MAX_FILE_BYTES}
use Rattle.driver.specs.Texts.{IsSessionText, IsSummary}
use Rattle.made_trace.specs.Made.{made_trace}

-- the files of a job; a made trace has none
abbrev pub files_in : Work → List (List ℕ)
files_in (Files files) = files
files_in (Made n) = []

abbrev pub job_files : Job → List (List ℕ)
job_files job = files_in job.work

-- at most as many files as mutators, or as many commands as a trace has
abbrev pub IsWithinLimits : Work → Type 0
IsWithinLimits (Files files) = (1 ≤ length files) × (length files ≤ MAX_MUTATORS)
IsWithinLimits (Made n) = n ≤ MAX_COMMANDS

-- the setting of a session of the job with these traces
abbrev pub setting_of : Job → List (List Command) → Setting
setting_of job traces = record {
  rules = rules_of job.plan;
  blocks = job.blocks;
  workers = job.workers;
  traces = traces;
}

-- the text of a session of n mutators: replies, report and map for files, and a summary for a made
-- trace
abbrev pub IsTextOf : Job → Work → ℕ → Moment → List ℕ → Type 0
IsTextOf job (Files files) n last text = IsSessionText job.plan n job.map last text
IsTextOf job (Made count) n last text = IsSummary count last text

-- The text of a whole session of the job and these traces: replies, report and map, or the summary
-- of a made trace.
pub record IsWholeText (job : Job) (traces : List (List Command)) (text : List ℕ) : Type 0 where
  pub last : Moment
  pub whole : IsWhole (setting_of job traces) last
  pub text_is : IsTextOf job job.work (length traces) last text

-- the content of each file name that is known to the contract
abbrev pub Content : Type 0
Content = List ℕ → Option (List ℕ)

-- the content, if known, encodes this trace
abbrev pub IsTraceIn : Option (List ℕ) → List Command → Type 0
IsTraceIn content t =
    IfSome content (λ bytes. (length bytes ≤ MAX_FILE_BYTES) × (trace bytes ≡ Ok t))

-- the contents of the files, if known, encode these traces, one each
abbrev pub AreTraces : Content → List (List ℕ) → List (List Command) → Type 0
AreTraces content [] [] = Unit {0}
AreTraces content (file ∷ files) (t ∷ traces) = IsTraceIn (content file) t
    × AreTraces content files traces
AreTraces content [] (t ∷ traces) = ⊥
AreTraces content (file ∷ files) [] = ⊥

-- the traces of a job: those in its files, or the made one
abbrev pub AreTracesOf : Content → Work → List (List Command) → Type 0
AreTracesOf content (Files files) traces = AreTraces content files traces
AreTracesOf content (Made n) traces = traces ≡ made_trace n ∷ []

-- the contents of all files are known
abbrev pub AreKnown : Content → List (List ℕ) → Type 0
AreKnown content files =
    AllByRecursion (λ file. (bytes : List ℕ) × (content file ≡ Some bytes)) files

-- the contents of a job's files are known, and encode traces
pub record HasTraces (content : Content) (job : Job) : Type 0 where
  pub reported : AreKnown content (job_files job)
  pub traces : List (List Command)
  pub read : AreTracesOf content job.work traces

-- the text of a whole session of the job and its traces was written
pub record Prints (content : Content) (job : Job) (before after : SinkState) : Type 0 where
  pub traces : List (List Command)
  pub read : AreTracesOf content job.work traces
  pub text : List ℕ
  pub printed : IsWholeText job traces text
  pub written : AppendsText before.written after.written text

-- a prefix of such a text was written, but not the whole text, and the sink failed
pub record PrintsPrefix (content : Content) (job : Job) (before after : SinkState) : Type 0 where
  pub traces : List (List Command)
  pub read : AreTracesOf content job.work traces
  pub text : List ℕ
  pub printed : IsWholeText job traces text
  pub written : AppendsPrefix before.written after.written text
  pub risen : HasRisen before.faults after.faults

-- Between the two states the first n of these files were asked for, in their order, once each, and
-- no other name.
pub record AsksFirst (n : ℕ) (files : List (List ℕ)) (before after : Asked) : Type 0 where
  pub since : Asked
  pub all : after ≡ before ++ since
  pub names : map (λ a. a.0) since ≡ take n files

-- a prefix of the files was asked for
abbrev pub AsksPrefix : List (List ℕ) → Asked → Asked → Type 0
AsksPrefix files before after = (n : ℕ) × AsksFirst n files before after

-- Reading ends at file k, from 0 on: the files before it have traces, and P holds of its content,
-- if known.
pub record EndsAtFile (content : Content) (files : List (List ℕ)) (k : ℕ) (P : List ℕ → Type 0)
    : Type 0 where
  pub file : List ℕ
  pub is : slice_get files k ≡ Some file
  pub traces : List (List Command)
  pub good : AreTraces content (take k files) traces
  pub content_is : IfSome (content file) P

-- reading ends at some file, and the contents up to it are known
abbrev pub EndsAtKnown : Content → List (List ℕ) → (List ℕ → Type 0) → Type 0
EndsAtKnown content files P = (k : ℕ) × EndsAtFile content files k P
    × AreKnown content (take (suc k) files)

abbrev pub IsLong : List ℕ → Type 0
IsLong bytes = MAX_FILE_BYTES < length bytes

-- short enough, but not a trace
abbrev pub IsNoTrace : List ℕ → Type 0
IsNoTrace bytes = (length bytes ≤ MAX_FILE_BYTES) × IsErr (trace bytes)

-- short enough, but not a trace, and this is its first fault
abbrev pub HasFault : TraceFault → List ℕ → Type 0
HasFault fault bytes = (length bytes ≤ MAX_FILE_BYTES) × (trace bytes ≡ Err fault)
    × (fault ≢ OutOfMemory)

abbrev pub IsAny : List ℕ → Type 0
IsAny bytes = Unit {0}

-- The lines on standard error.
abbrev pub usage_line : List ℕ
usage_line = codes "mm_drive: usage: mm_drive --plan P --heap B [--workers W] [--map] FILE... "
    ++ codes "| mm_drive --plan P --heap B [--workers W] --make N\n"

abbrev pub unread_line : List ℕ → List ℕ
unread_line file = codes "mm_drive: cannot read " ++ (file ++ codes "\n")

-- a line that begins with a file's name
abbrev pub file_line : List ℕ → List ℕ → List ℕ
file_line file what = codes "mm_drive: " ++ (file ++ what)

abbrev pub long_line : List ℕ → List ℕ
long_line file = file_line file (codes " is longer than 16777216 bytes\n")

abbrev pub why_word : Why → List ℕ
why_word why.Header = codes "header"
why_word why.Word = codes "word"
why_word why.Count = codes "count"
why_word why.Number = codes "number"
why_word why.Range = codes "range"

-- the line for a bad header or command, from the texts of its line number and its fault
abbrev pub line_fault : List ℕ → List ℕ → List ℕ → List ℕ
line_fault file line word =
    file_line file (codes ": line " ++ (line ++ (codes ": " ++ (word ++ codes "\n"))))

abbrev pub write_line : List ℕ
write_line = codes "mm_drive: write failed\n"

abbrev pub memory_line : List ℕ
memory_line = codes "mm_drive: out of memory\n"

-- the line for a file that is not a trace
abbrev pub fault_line : List ℕ → TraceFault → List ℕ
fault_line file (Line n w) = line_fault file (decimal n) (why_word w)
fault_line file TooMany = file_line file (codes ": more than 1000000 commands\n")
fault_line file OutOfMemory = memory_line

-- Standard error got the line, or a prefix of it if its count of faults has risen.
pub record WritesFaultLine (before after : SinkState) (line : List ℕ) : Type 0 where
  pub reported : AppendsText before.written after.written line
      ⊎ (HasRisen before.faults after.faults × AppendsPrefix before.written after.written line)
  pub later : before.faults ≤ after.faults

-- The arguments do not match the usage, or ask for a feature that is not implemented yet: no file
-- is asked for, and the line is the usage.
pub record IsUsage (job : Option Job) (before after : SourceState) (Writes : List ℕ → Type 0)
    : Type 0 where
  pub none : job ≡ None
  pub unread : after ≡ before
  pub line : Writes usage_line

-- File `place`, from 0 on, could not be read: it was asked for last, when the count of faults was
-- `count`, no less than at the start, and the count has risen since. The line names the file.
pub record Unread (files : List (List ℕ)) (before after : SourceState) (Writes : List ℕ → Type 0)
    : Type 0 where
  pub place : ℕ
  pub at : EndsAtFile before.content files place IsAny
  pub earlier : Asked
  pub prefix : AsksFirst place files before.asked earlier
  pub count : ℕ
  pub last : after.asked ≡ earlier ++ (at.file, count) ∷ []
  pub since : before.faults ≤ count
  pub risen : HasRisen count after.faults
  pub line : Writes (unread_line at.file)

-- A file is too long. It was asked for last, and the line names it.
pub record IsTooLong (files : List (List ℕ)) (before after : SourceState) (Writes : List ℕ → Type 0)
    : Type 0 where
  pub place : ℕ
  pub at : EndsAtFile before.content files place IsLong
  pub asked : AsksFirst (suc place) files before.asked after.asked
  pub line : Writes (long_line at.file)

-- A file is not a trace. It was asked for last, and the line names it and its first fault.
pub record IsBad (files : List (List ℕ)) (before after : SourceState) (Writes : List ℕ
    → Type 0) : Type 0 where
  pub fault : TraceFault
  pub place : ℕ
  pub at : EndsAtFile before.content files place (HasFault fault)
  pub asked : AsksFirst (suc place) files before.asked after.asked
  pub line : Writes (fault_line at.file fault)
