-- What a run of the traces writes.
use Rattle.std.specs.Prelude.{◌≡◌, ℕ, List, Result, Ok, Err}
use Rattle.ideal_heap.specs.declared.command.Command.{Command}
use Rattle.command_line.specs.Words.{Job}
use Rattle.outside.specs.Outside.{SinkState, HasRisen, AppendsText, AppendsPrefix}
use Rattle.driver.specs.declared.writing.PrintFault.{PrintFault}
use Rattle.driver.specs.declared.writing.PrintFault.TheVariants as fault
use Rattle.driver.specs.Printed.{IsWholeText}

-- Written was such a text; a prefix of one, if the sink failed; nothing, if memory ran out.
abbrev pub WritesTextBy : (List ℕ → Type 0) → SinkState → SinkState
    → Result (Unit {0}) PrintFault → Type 0
WritesTextBy Is before after (Ok u) = (text : List ℕ) × Is text
    × AppendsText before.written after.written text
WritesTextBy Is before after (Err fault.Unwritten) = (text : List ℕ) × Is text
    × AppendsPrefix before.written after.written text × HasRisen before.faults after.faults
WritesTextBy Is before after (Err fault.OutOfMemory) = after ≡ before

-- what is written is the text of a whole session of the job and these traces
abbrev pub WritesText : Job → List (List Command) → SinkState → SinkState
    → Result (Unit {0}) PrintFault → Type 0
WritesText job traces before after result =
    WritesTextBy (IsWholeText job traces) before after result
