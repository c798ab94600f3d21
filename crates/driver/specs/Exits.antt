-- How the process ends, by the arguments that the system gives.
use Rattle.std.specs.Prelude.{◌≡◌, ◌≢◌, ◌⊎◌, ℕ, List, length, Option, None, Some, IfSome}
use Rattle.std.specs.declared.io.ErrorKind.{ErrorKind}
use Rattle.std.specs.declared.io.ErrorKind.TheVariants as kinds
use Rattle.command_line.specs.Words.{Job}
use Rattle.outside.specs.Outside.{Asked, SourceState, SinkState}
use Rattle.driver.specs.declared.status.Status.{Status}
use Rattle.driver.specs.declared.status.Status.TheVariants as status
use Rattle.driver.specs.Statuses.{status_number}
use Rattle.driver.specs.Printed.{job_files, Prints, PrintsPrefix, AsksFirst, AsksPrefix, Unread, IsTooLong, IsBad}
use Rattle.driver.specs.Printed.{IsUsage, WritesFaultLine, usage_line, write_line, memory_line}

-- the status if the system gives no arguments: out of memory if it reports that, else usage: an
-- argument is not UTF-8
abbrev pub refusal : ErrorKind → Status
refusal kinds.OutOfMemory = status.OutOfMemory
refusal _ = status.Usage

abbrev pub refusal_line : ErrorKind → List ℕ
refusal_line kinds.OutOfMemory = memory_line
refusal_line _ = usage_line

-- The status is Usage if and only if the arguments name no job that is implemented, unless memory
-- runs out.
pub record IsStatusOf (job : Option Job) (s : Status) : Type 0 where
  pub none : s ≡ status.Usage → job ≡ None
  pub usage : job ≡ None → (s ≡ status.Usage) ⊎ (s ≡ status.OutOfMemory)

-- a prefix of the job's files was opened, in their order, and no other name; none where there is no
-- job
abbrev pub OpensOnly : Option Job → Asked → Asked → Type 0
OpensOnly None before after = after ≡ before
OpensOnly (Some job) before after = AsksPrefix (job_files job) before after

-- each of the job's files was opened, once, in their order
abbrev pub OpensAll : Job → Asked → Asked → Type 0
OpensAll job before after = AsksFirst (length (job_files job)) (job_files job) before after

-- A run of the arguments: which names it opened, and what it wrote to both sinks.
pub record Ran (job : Option Job) (s : Status) (files files' : SourceState)
    (out out' err err' : SinkState) : Type 0 where
  pub status_of : IsStatusOf job s
  pub opened : OpensOnly job files.asked files'.asked
  pub all : s ≡ status.Ok → IfSome job (λ j. OpensAll j files.asked files'.asked)
  pub printed : s ≡ status.Ok → IfSome job (λ j. Prints files.content j out out')
  pub prefix : s ≡ status.WriteFault → IfSome job (λ j. PrintsPrefix files.content j out out')
  pub unwritten : s ≢ status.Ok → s ≢ status.WriteFault → out' ≡ out
  pub silent : s ≡ status.Ok → err' ≡ err

-- Each status but Ok has its cause, and its line on standard error.
pub record IsReported (job : Option Job) (s : Status) (files files' : SourceState)
    (err err' : SinkState) : Type 0 where
  pub usage : s ≡ status.Usage → IsUsage job files files' (WritesFaultLine err err')
  pub unread : s ≡ status.ReadFault
      → IfSome job (λ j. Unread (job_files j) files files' (WritesFaultLine err err'))
  pub too_long : s ≡ status.TooLong
      → IfSome job (λ j. IsTooLong (job_files j) files files' (WritesFaultLine err err'))
  pub bad : s ≡ status.BadTrace
      → IfSome job (λ j. IsBad (job_files j) files files' (WritesFaultLine err err'))
  pub unwritten : s ≡ status.WriteFault → WritesFaultLine err err' write_line
  pub starved : s ≡ status.OutOfMemory → WritesFaultLine err err' memory_line

-- the number of such a status
abbrev pub IsExit : Option Job → ℕ → Type 0
IsExit job n = (s : Status) × (n ≡ status_number s) × IsStatusOf job s
