-- The first line of a text, read from the beginning of the text.
use Rattle.std.proofs.Common.{◌≡◌, sym, ◌∙◌, ap, ℕ, ◌+◌, ◌-◌, ◌<◌, arith, List, ◌∷◌, length, length-append, take, drop, Ok}
use Rattle.std.proofs.lemmas.List.{take_rest}
use Rattle.ideal_heap.specs.declared.command.Command.{Command}
use Rattle.trace_text.specs.Words.{all_ops, op_in}
use Rattle.trace_text.specs.Grammar.{parts_at}
use Rattle.trace_text.specs.Text.{command_text}
use Rattle.trace_text.specs.Parts.{IsFirstLine, IsReadAs}
use Rattle.trace_text.proofs.PartLemmas.{line_before}
use Rattle.trace_text.proofs.WholeLines.{cut_at}
use Rattle.trace_text.proofs.CommandTexts.{line_again, command_lacks}
use Rattle.trace_text.proofs.WholeTraces.{known}

pub front_read : (c : Command) (text : List ℕ) (end : ℕ) → IsFirstLine c text end → IsReadAs text (Ok c) (take (length text - end) (drop end text))
front_read c text end front =
    let cut = ap (parts_at 10) front.2 ∙ cut_at 10 (command_text c) (drop end text) (command_lacks c front.0) in
    rw (take_rest text end) (command_text c, line_before text (command_text c) (drop end text) cut, sym (line_again all_ops c front.0 (known (op_in c))))

pub front_shorter : (c : Command) (text : List ℕ) (end : ℕ) → IsFirstLine c text end → length (take (length text - end) (drop end text)) < length text
front_shorter c text end front =
    let whole : length text ≡ length (command_text c) + length (10 ∷ drop end text) = ap length front.2 ∙ length-append (command_text c) (10 ∷ drop end text) in
    rw (take_rest text end) (omega arith)
