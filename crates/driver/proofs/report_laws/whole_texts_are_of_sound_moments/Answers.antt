use Rattle.std.proofs.Common.{◌≡◌, subst, ◌≤◌, arith, ap, List, length}
use Rattle.ideal_heap.specs.declared.command.Command.{Command}
use Rattle.sessions.proofs.Soundness.{session-sound}
use Rattle.sessions.proofs.StopSteps.{session-blocks}
use Rattle.command_line.specs.Words.{Work, Files, Made}
use Rattle.driver.specs.Printed.{Content, AreTracesOf, IsTextOf, IsWithinLimits, setting_of}
use Rattle.driver.proofs.Jobs.{job-blocks, job-work}
use Rattle.driver.proofs.OneTrace.{trace-number}
use Rattle.driver.proofs.report_laws.whole_texts_are_of_sound_moments.Goals as goal

-- a job has at most 16 traces
few-traces : (content : Content) (work : Work) (traces : List (List Command)) → IsWithinLimits work → AreTracesOf content work traces → length traces ≤ 16
few-traces content (Files files) traces within are = let each = trace-number content files traces are in let most = within.1 in omega (arith, each, most)
few-traces content (Made n) traces within are = let one : length traces ≡ 1 = ap length are in omega (arith, one)

pub returns-clause-sound : goal.returns-clause-sound
returns-clause-sound c words job content traces text named are w =
    let form = named in
    let bounds = job-blocks words job form in
    session-sound (setting_of job traces) w.last bounds.0 bounds.1
    (few-traces content job.work traces (job-work words job form) are) w.whole.session

pub returns-clause-blocks : goal.returns-clause-blocks
returns-clause-blocks c job traces text w = session-blocks (setting_of job traces) w.last w.whole.session

pub returns-clause-files : goal.returns-clause-files
returns-clause-files c job files traces text work w = subst (λ (k : Work). IsTextOf job k (length traces) w.last text) work w.text_is

pub returns-clause-made : goal.returns-clause-made
returns-clause-made c job n traces text work w = subst (λ (k : Work). IsTextOf job k (length traces) w.last text) work w.text_is
