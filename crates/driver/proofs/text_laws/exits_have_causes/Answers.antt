use Rattle.std.proofs.Common.{◌≡◌, sym, ◌∙◌, ap, inl, inr, refl, arith, ◌++◌, map, length}
use Rattle.std.specs.Prelude.{◌⊎◌}
use Rattle.std.proofs.lemmas.Option.{none-some}
use Rattle.std.proofs.Math.Seq.{take-length}
use Rattle.driver.specs.declared.status.Status.{Status}
use Rattle.driver.specs.declared.status.Status.TheVariants as status
use Rattle.driver.specs.Statuses.{status_number}
use Rattle.driver.specs.Printed.{job_files}
use Rattle.driver.proofs.JoinedFiles.{names-asked}
use Rattle.driver.proofs.text_laws.exits_have_causes.Goals as goal

pub returns-clause-no_job : goal.returns-clause-no_job
returns-clause-no_job c n exit = elim (exit.2.usage refl) as (λ _. (n ≡ 2) ⊎ (n ≡ 7)) [
  | inl e ↦ inl (exit.1 ∙ ap status_number e)
  | inr e ↦ inr (exit.1 ∙ ap status_number e)
]

usage-from : (s : Status) → status_number s ≡ 2 → s ≡ status.Usage
usage-from status.Ok e = absurd (omega (arith, e))
usage-from status.Usage e = refl
usage-from status.ReadFault e = absurd (omega (arith, e))
usage-from status.TooLong e = absurd (omega (arith, e))
usage-from status.BadTrace e = absurd (omega (arith, e))
usage-from status.WriteFault e = absurd (omega (arith, e))
usage-from status.OutOfMemory e = absurd (omega (arith, e))

pub returns-clause-job : goal.returns-clause-job
returns-clause-job c job n exit two = none-some job (sym (exit.2.none (usage-from exit.0 (sym exit.1 ∙ two))))

pub returns-clause-unwritten : goal.returns-clause-unwritten
returns-clause-unwritten c job files read out after err err_after ran =
    ran.unwritten (λ e. let wrong : status.BadTrace ≡ status.Ok = e in cc) (λ e. let wrong : status.BadTrace ≡ status.WriteFault = e in cc)

pub returns-clause-silent : goal.returns-clause-silent
returns-clause-silent c job files read out after err err_after ran = ran.silent refl

pub returns-clause-printed : goal.returns-clause-printed
returns-clause-printed c job files read out after err err_after ran = ran.printed refl

pub returns-clause-front : goal.returns-clause-front
returns-clause-front c job files read out after err err_after ran = ran.prefix refl

pub returns-clause-unread : goal.returns-clause-unread
returns-clause-unread c s files read out after err err_after ran = ran.opened

pub returns-clause-opened : goal.returns-clause-opened
returns-clause-opened c job s files read out after err err_after ran = (ran.opened.0, names-asked ran.opened.0 (job_files job) files.asked read.asked ran.opened.1)

pub returns-clause-all : goal.returns-clause-all
returns-clause-all c job files read out after err err_after ran =
    names-asked (length (job_files job)) (job_files job) files.asked read.asked (ran.all refl)
    ∙ ap (λ names. map (λ a. a.0) files.asked ++ names) (take-length (job_files job))
