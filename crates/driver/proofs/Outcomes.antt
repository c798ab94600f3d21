-- From reading, running and writing to a whole run.
use Rattle.std.proofs.Common.{◌≡◌, sym, ◌∙◌, ap, subst, ℕ, ◌<◌, Bool, List, [], ◌++◌, length, append_assoc}
use Rattle.std.specs.Prelude.{if◌then◌else◌, Option, Some, IfSome, Result, Ok, Err, IfOk, option_map, slice_get, String, string_bytes}
use Rattle.std.specs.declared.alloc.Global.{Global}
use Rattle.std.proofs.lemmas.List.{length-map}
use Rattle.std.proofs.lemmas.Option.{none-some, slice_get_within}
use Rattle.ideal_heap.specs.declared.command.Command.{Command}
use Rattle.command_line.specs.Words.{Job, Work, Files, Made}
use Rattle.command_line.specs.Orders.{job_of_order, texts}
use Rattle.command_line.specs.declared.order.Order.{Order}
use Rattle.outside.specs.Outside.{SinkState, AppendsText}
use Rattle.sessions.specs.Plans.{Plan}
use Rattle.sessions.specs.Sessions.{Moment}
use Rattle.driver.specs.Texts.{IsReport, IsSessionText, IsSummary, map_part, replies_part, report_part}
use Rattle.driver.specs.declared.writing.PrintFault.{PrintFault}
use Rattle.driver.specs.declared.writing.PrintFault.TheVariants as fault
use Rattle.driver.specs.Writing.{WritesTextBy}
use Rattle.driver.specs.Printed.{Content, files_in, IsTextOf, IsWholeText, AreKnown, AreTracesOf, EndsAtFile, EndsAtKnown, Prints}
use Rattle.driver.proofs.JoinedFiles.{IsOffTrace, traces-clash, reported-clash}

-- what holds of the job holds of the job that the arguments name, if they name one
pub of-job : {J : Type 0} (o : Option J) (j : J) (P : J → Type 0) → Some j ≡ o → P j → IfSome o P
of-job o j P e p = let Q : Option _ → Type 0 = λ x. IfSome x P in subst Q e p

-- the arguments name the job of the order
pub named-job : (r : Option Order) (o : Order) (j : Option Job) → r ≡ Some o → option_map job_of_order r ≡ j → Some (job_of_order o) ≡ j
named-job r o j is named = sym (ap (option_map job_of_order) is) ∙ named

-- a file that is named is one of the arguments
pub within-files : (files : List (String Global)) (k : ℕ) (file : List ℕ) → slice_get (texts files) k ≡ Some file → k < length files
within-files files k file is = let low = slice_get_within (texts files) k file is in subst (λ (n : ℕ). k < n) (length-map files string_bytes) low

-- no file of a job ends the reading if its traces are known
pub traces-clash-of : (content : Content) (work : Work) (ts : List (List Command)) (Q : List ℕ → Type 0) → IsOffTrace Q → AreTracesOf content work ts → EndsAtKnown content (files_in work) Q → ⊥
traces-clash-of content (Files files) ts Q off good ends = traces-clash content files ts Q off good ends
traces-clash-of content (Made n) ts Q off good ends = none-some ends.1.file ends.1.is

pub reported-clash-of : (content : Content) (work : Work) (ts : List (List Command)) (k : ℕ) (P : List ℕ → Type 0) → IsOffTrace P → EndsAtFile content (files_in work) k P → AreKnown content (files_in work) → AreTracesOf content work ts → ⊥
reported-clash-of content (Files files) ts k P off at reported good = reported-clash content files ts k P off at reported good
reported-clash-of content (Made n) ts k P off at reported good = none-some at.file at.is

-- the text of a session of files is that of a job with its plan
pub text-of-files : (job : Job) (files : List (List ℕ)) (plan : Plan) (n : ℕ) (last : Moment) (text : List ℕ) → job.plan ≡ plan → job.work ≡ Files files
    → IsSessionText plan n job.map last text → IsTextOf job job.work n last text
text-of-files job files plan n last text named work is =
    subst (λ (w : Work). IsTextOf job w n last text) (sym work) (subst (λ (x : Plan). IsSessionText x n job.map last text) (sym named) is)

-- the replies, and then the report, are the text of the session
pub with-replies : (plan : Plan) (n : ℕ) (has_map : Bool) (last : Moment) (report : List ℕ) → IsReport plan n has_map last report → IsSessionText plan n has_map last (replies_part n last ++ report)
with-replies plan n has_map last report is = record {
  live = is.live;
  are = is.are;
  printed = ap (λ (l : List ℕ). replies_part n last ++ l) is.printed
      ∙ sym (append_assoc (replies_part n last) (report_part plan n last is.live) (if has_map then map_part last is.live else []));
}

pub text-of-made : (job : Job) (count n : ℕ) (last : Moment) (text : List ℕ) → job.work ≡ Made count → IsSummary count last text → IsTextOf job job.work n last text
text-of-made job count n last text work is = subst (λ (w : Work). IsTextOf job w n last text) (sym work) is

-- what was written is the text of a session of the job
pub prints : (content : Content) (job : Job) (ts : List (List Command)) (text : List ℕ) (before after : SinkState)
    → AreTracesOf content job.work ts → IsWholeText job ts text → AppendsText before.written after.written text → Prints content job before after
prints content job ts text before after read printed written = record { traces = ts; read = read; text = text; printed = printed; written = written }

-- what is written is a text of which more holds
pub writes-by : (r : Result (Unit {0}) PrintFault) (Is Was : List ℕ → Type 0) (before after : SinkState) → ((text : List ℕ) → Is text → Was text)
    → WritesTextBy Is before after r → WritesTextBy Was before after r
writes-by (Ok u) Is Was before after next writes = (writes.0, next writes.0 writes.1, writes.2)
writes-by (Err fault.Unwritten) Is Was before after next writes = (writes.0, next writes.0 writes.1, writes.2, writes.3)
writes-by (Err fault.OutOfMemory) Is Was before after next writes = writes

-- what holds of an answer holds of what follows from it
pub on-ok : {X E : Type 0} (r : Result X E) (P Q : X → Type 0) → ((x : X) → P x → Q x) → IfOk r P → IfOk r Q
on-ok (Ok x) P Q next holds = next x holds
on-ok (Err e) P Q next holds = tt
