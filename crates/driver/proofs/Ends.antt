-- What ends the reading of files: from the fault of one file to the end of a run.
use Rattle.std.proofs.Common.{◌≡◌, ◌≢◌, ◌∙◌, refl, ap, subst, ℕ, ◌<◌, ◌≤◌, arith, inl, inr, List, [], length}
use Rattle.std.specs.Prelude.{◌⊎◌, Option, None, Some, Err, Result, slice_get, unwrap_or, String}
use Rattle.std.specs.declared.alloc.Global.{Global}
use Rattle.ideal_heap.specs.declared.command.Command.{Command}
use Rattle.trace_text.specs.declared.fault.TraceFault.{TraceFault}
use Rattle.trace_text.specs.declared.fault.TraceFault.TheVariants as texts
use Rattle.trace_text.specs.Grammar.{Gives}
use Rattle.command_line.specs.Orders.{texts as names_of}
use Rattle.command_line.specs.Words.{Job}
use Rattle.outside.specs.Outside.{Asked, SourceState, SinkState, HasRisen}
use Rattle.driver.specs.declared.status.Status.{Status}
use Rattle.driver.specs.declared.status.Status.TheVariants as status
use Rattle.driver.specs.declared.traces.FileFault.{FileFault}
use Rattle.driver.specs.declared.traces.FileFault.TheVariants as file
use Rattle.driver.specs.declared.traces.FilesFault.{FilesFault}
use Rattle.driver.specs.Statuses.{status_number}
use Rattle.driver.specs.Printed.{job_files, HasTraces, EndsAtKnown, IsLong, IsNoTrace, HasFault, Unread, IsTooLong, IsBad, unread_line, long_line, fault_line, memory_line, WritesFaultLine}
use Rattle.driver.specs.Exits.{OpensOnly, Ran, IsReported}
use Rattle.driver.specs.Reading.{HaltsAt, Halts, IsOneOf, text_fault, status_of, file_name_in, line_of_fault, fault_line_of}
use Rattle.driver.proofs.JoinedFiles.{asks-none, risen-since, long-off, bad-off, fault-off, long-bad, fault-long, ends-clash}
use Rattle.driver.proofs.Outcomes.{within-files, reported-clash-of}

-- the fault of a file whose text was read
abbrev fault-in-text : FileFault → TraceFault
fault-in-text (file.Bad fault) = fault
fault-in-text file.Unread = texts.TooMany
fault-in-text file.TooLong = texts.TooMany
fault-in-text file.OutOfMemory = texts.TooMany

pub bad-from : (f fault : TraceFault) → text_fault f ≡ file.Bad fault → f ≡ fault
bad-from (texts.Line n w) fault e = ap fault-in-text e
bad-from texts.TooMany fault e = ap fault-in-text e
bad-from texts.OutOfMemory fault e = absurd (let wrong : file.OutOfMemory ≡ file.Bad fault = e in cc)

pub not-memory : (f fault : TraceFault) → text_fault f ≡ file.Bad fault → fault ≢ texts.OutOfMemory
not-memory (texts.Line n w) fault e is = let wrong : texts.Line n w ≡ texts.OutOfMemory = ap fault-in-text e ∙ is in cc
not-memory texts.TooMany fault e is = let wrong : texts.TooMany ≡ texts.OutOfMemory = ap fault-in-text e ∙ is in cc
not-memory texts.OutOfMemory fault e is = let wrong : file.OutOfMemory ≡ file.Bad fault = e in cc

pub bad-text : (fault : TraceFault) (r : Result (List Command) TraceFault) → fault ≢ texts.OutOfMemory → Gives (λ (v : List Command). v) (Err fault) r → r ≡ Err fault
bad-text (texts.Line n w) r other gives = gives
bad-text texts.TooMany r other gives = gives
bad-text texts.OutOfMemory r other gives = absurd (other refl)

-- the file at fault is one of those that were named
one-at : (named : List (String Global)) (before after : SourceState) (k : ℕ) (f : FileFault) → HaltsAt (names_of named) before after k f → (f ≡ file.OutOfMemory) ⊎ (k < length named)
one-at named before after k file.Unread ends = inr (within-files named k ends.0.file ends.0.is)
one-at named before after k file.TooLong ends = inr (within-files named k ends.0.file ends.0.is)
one-at named before after k (file.Bad fault) ends = inr (within-files named k ends.0.file ends.0.is)
one-at named before after k file.OutOfMemory ends = inl refl

pub one-of : (named : List (String Global)) (before after : SourceState) (f : FilesFault) → Halts (names_of named) before after f → IsOneOf (length named) f
one-of named before after f ends = one-at named before after f.place f.fault ends

-- the numbers of such statuses
low-number : (f : FileFault) → 3 ≤ status_number (status_of f)
low-number file.Unread = omega arith
low-number file.TooLong = omega arith
low-number (file.Bad fault) = omega arith
low-number file.OutOfMemory = omega arith

other-number : (f : FileFault) → status_number (status_of f) ≡ 6 → ⊥
other-number file.Unread e = omega (arith, e)
other-number file.TooLong e = omega (arith, e)
other-number (file.Bad fault) e = omega (arith, e)
other-number file.OutOfMemory e = omega (arith, e)

pub not-ok : (f : FileFault) → status_of f ≡ status.Ok → ⊥
not-ok f e = omega (arith, low-number f, ap status_number e)

pub not-usage : (f : FileFault) → status_of f ≡ status.Usage → ⊥
not-usage f e = omega (arith, low-number f, ap status_number e)

pub not-unwritten : (f : FileFault) → status_of f ≡ status.WriteFault → ⊥
not-unwritten f e = other-number f (ap status_number e)

-- a status with another number
other : (s t : Status) → (status_number s ≡ status_number t → ⊥) → s ≡ t → ⊥
other s t differ e = differ (ap status_number e)

memory-at : (name : List ℕ) (Writes : List ℕ → Type 0) (f : FileFault) → Writes (line_of_fault name f) → status_of f ≡ status.OutOfMemory → Writes memory_line
memory-at name Writes file.Unread line is = absurd (other status.ReadFault status.OutOfMemory (λ e. omega (arith, e)) is)
memory-at name Writes file.TooLong line is = absurd (other status.TooLong status.OutOfMemory (λ e. omega (arith, e)) is)
memory-at name Writes (file.Bad fault) line is = absurd (other status.BadTrace status.OutOfMemory (λ e. omega (arith, e)) is)
memory-at name Writes file.OutOfMemory line is = line

pub memory-end : (names : List (List ℕ)) (Writes : List ℕ → Type 0) (f : FilesFault) → Writes (fault_line_of names f) → status_of f.fault ≡ status.OutOfMemory → Writes memory_line
memory-end names Writes f line is = memory-at (file_name_in names f.place) Writes f.fault line is

module _ (names : List (List ℕ)) (before after : SourceState) (Writes : List ℕ → Type 0) where
  named : (k : ℕ) (name : List ℕ) → slice_get names k ≡ Some name → file_name_in names k ≡ name
  named k name is = ap (λ o. unwrap_or o []) is

  -- each fault has its status, with its line
  unread-at : (k : ℕ) (f : FileFault) → HaltsAt names before after k f → Writes (line_of_fault (file_name_in names k) f) → status_of f ≡ status.ReadFault → Unread names before after Writes
  unread-at k file.Unread ends line is = record {
    place = k;
    at = ends.0;
    earlier = ends.1.earlier;
    prefix = ends.1.prefix;
    count = ends.1.count;
    last = ends.1.last;
    since = ends.1.since;
    risen = ends.1.risen;
    line = subst (λ (x : List ℕ). Writes (unread_line x)) (named k ends.0.file ends.0.is) line;
  }
  unread-at k file.TooLong ends line is = absurd (other status.TooLong status.ReadFault (λ e. omega (arith, e)) is)
  unread-at k (file.Bad fault) ends line is = absurd (other status.BadTrace status.ReadFault (λ e. omega (arith, e)) is)
  unread-at k file.OutOfMemory ends line is = absurd (other status.OutOfMemory status.ReadFault (λ e. omega (arith, e)) is)

  long-at : (k : ℕ) (f : FileFault) → HaltsAt names before after k f → Writes (line_of_fault (file_name_in names k) f) → status_of f ≡ status.TooLong → IsTooLong names before after Writes
  long-at k file.Unread ends line is = absurd (other status.ReadFault status.TooLong (λ e. omega (arith, e)) is)
  long-at k file.TooLong ends line is =
      record { place = k; at = ends.0; asked = ends.1; line = subst (λ (x : List ℕ). Writes (long_line x)) (named k ends.0.file ends.0.is) line }
  long-at k (file.Bad fault) ends line is = absurd (other status.BadTrace status.TooLong (λ e. omega (arith, e)) is)
  long-at k file.OutOfMemory ends line is = absurd (other status.OutOfMemory status.TooLong (λ e. omega (arith, e)) is)

  bad-at : (k : ℕ) (f : FileFault) → HaltsAt names before after k f → Writes (line_of_fault (file_name_in names k) f) → status_of f ≡ status.BadTrace → IsBad names before after Writes
  bad-at k file.Unread ends line is = absurd (other status.ReadFault status.BadTrace (λ e. omega (arith, e)) is)
  bad-at k file.TooLong ends line is = absurd (other status.TooLong status.BadTrace (λ e. omega (arith, e)) is)
  bad-at k (file.Bad fault) ends line is =
      record { fault = fault; place = k; at = ends.0; asked = ends.1; line = subst (λ (x : List ℕ). Writes (fault_line x fault)) (named k ends.0.file ends.0.is) line }
  bad-at k file.OutOfMemory ends line is = absurd (other status.OutOfMemory status.BadTrace (λ e. omega (arith, e)) is)

  pub unread-end : (f : FilesFault) → Halts names before after f → Writes (fault_line_of names f) → status_of f.fault ≡ status.ReadFault → Unread names before after Writes
  unread-end f ends line is = unread-at f.place f.fault ends line is

  pub long-end : (f : FilesFault) → Halts names before after f → Writes (fault_line_of names f) → status_of f.fault ≡ status.TooLong → IsTooLong names before after Writes
  long-end f ends line is = long-at f.place f.fault ends line is

  pub bad-end : (f : FilesFault) → Halts names before after f → Writes (fault_line_of names f) → status_of f.fault ≡ status.BadTrace → IsBad names before after Writes
  bad-end f ends line is = bad-at f.place f.fault ends line is

-- what is known of the contents allows no other status
module _ (names : List (List ℕ)) (before after : SourceState) where
  pub long-status : (k : ℕ) (f : FileFault) → HaltsAt names before after k f → EndsAtKnown before.content names IsLong
      → (status_of f ≡ status.TooLong) ⊎ ((status_of f ≡ status.ReadFault) ⊎ (status_of f ≡ status.OutOfMemory))
  long-status k file.Unread ends at = inr (inl refl)
  long-status k file.TooLong ends at = inl refl
  long-status k (file.Bad fault) ends at = absurd (ends-clash before.content names k (HasFault fault) IsLong (fault-off fault) long-off (fault-long fault) ends.0 at)
  long-status k file.OutOfMemory ends at = inr (inr refl)

  pub bad-status : (k : ℕ) (f : FileFault) → HaltsAt names before after k f → EndsAtKnown before.content names IsNoTrace
      → (status_of f ≡ status.BadTrace) ⊎ ((status_of f ≡ status.ReadFault) ⊎ (status_of f ≡ status.OutOfMemory))
  bad-status k file.Unread ends at = inr (inl refl)
  bad-status k file.TooLong ends at = absurd (ends-clash before.content names k IsLong IsNoTrace long-off bad-off long-bad ends.0 at)
  bad-status k (file.Bad fault) ends at = inl refl
  bad-status k file.OutOfMemory ends at = inr (inr refl)

pub good-status : (job : Job) (before after : SourceState) (k : ℕ) (f : FileFault) → HaltsAt (job_files job) before after k f → HasTraces before.content job
    → (HasRisen before.faults after.faults → ⊥) → (status_of f ≡ status.Ok) ⊎ (status_of f ≡ status.OutOfMemory)
good-status job before after k file.Unread ends good calm = absurd (calm (risen-since before.faults ends.1.count after.faults ends.1.since ends.1.risen))
good-status job before after k file.TooLong ends good calm =
    absurd (reported-clash-of before.content job.work good.traces k IsLong long-off ends.0 good.reported good.read)
good-status job before after k (file.Bad fault) ends good calm =
    absurd (reported-clash-of before.content job.work good.traces k (HasFault fault) (fault-off fault) ends.0 good.reported good.read)
good-status job before after k file.OutOfMemory ends good calm = inr refl

-- memory ran out before a name was asked for
opens-none : (job : Option Job) (asked : Asked) → OpensOnly job asked asked
opens-none None asked = refl
opens-none (Some job) asked = asks-none (job_files job) asked

pub starved-reported : (job : Option Job) (files : SourceState) (err err' : SinkState) → WritesFaultLine err err' memory_line
    → IsReported job status.OutOfMemory files files err err'
starved-reported job files err err' reported = record {
  usage = λ is. absurd (other status.OutOfMemory status.Usage (λ e. omega (arith, e)) is);
  unread = λ is. absurd (other status.OutOfMemory status.ReadFault (λ e. omega (arith, e)) is);
  too_long = λ is. absurd (other status.OutOfMemory status.TooLong (λ e. omega (arith, e)) is);
  bad = λ is. absurd (other status.OutOfMemory status.BadTrace (λ e. omega (arith, e)) is);
  unwritten = λ is. absurd (other status.OutOfMemory status.WriteFault (λ e. omega (arith, e)) is);
  starved = λ _. reported;
}

pub starved : (job : Option Job) (files : SourceState) (out err err' : SinkState) → Ran job status.OutOfMemory files files out out err err'
starved job files out err err' = record {
  status_of = record { none = λ is. absurd (other status.OutOfMemory status.Usage (λ e. omega (arith, e)) is); usage = λ none. inr refl };
  opened = opens-none job files.asked;
  all = λ is. absurd (other status.OutOfMemory status.Ok (λ e. omega (arith, e)) is);
  printed = λ is. absurd (other status.OutOfMemory status.Ok (λ e. omega (arith, e)) is);
  prefix = λ is. absurd (other status.OutOfMemory status.WriteFault (λ e. omega (arith, e)) is);
  unwritten = λ one two. refl;
  silent = λ is. absurd (other status.OutOfMemory status.Ok (λ e. omega (arith, e)) is);
}
