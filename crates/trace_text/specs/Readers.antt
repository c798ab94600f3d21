-- What the readers of a trace return in the end, from their state and the text that follows.
use Rattle.std.specs.Prelude.{◌≡◌, ℕ, ◌⊎◌, List, [], ◌∷◌, ◌++◌, Option, None, Some, Result, Ok, Err, nat_lt}
use Rattle.std.specs.Prelude.{if◌then◌else◌}
use Rattle.ideal_heap.specs.declared.command.Command.{Command}
use Rattle.trace_text.specs.declared.fault.TraceFault.{TraceFault}
use Rattle.trace_text.specs.declared.line_reader.LineReader.{LineReader}
use Rattle.trace_text.specs.declared.trace_reader.TraceReader.{TraceReader}
use Rattle.trace_text.specs.Words.{all_ops}
use Rattle.trace_text.specs.Grammar.{◌>>=◌, line, lines_from, lines_of, with_header, trace}

-- the commands so far, followed by those of the rest
abbrev pub with_prefix : {C : Type 0} → List C → Result (List C) TraceFault
    → Result (List C) TraceFault
with_prefix prefix rest = rest >>= λ cs. Ok (prefix ++ cs)

-- the result for lines of which the first has this number
abbrev pub result_of : ℕ → List (List ℕ) → Result (List Command) TraceFault
result_of number lines =
    if nat_lt 1 number then lines_from (line all_ops) number lines else with_header lines

-- the result for the lines that follow, unless a line before them was bad
abbrev pub result_after : Option TraceFault → List Command → ℕ → List (List ℕ)
    → Result (List Command) TraceFault
result_after (Some fault) commands number lines = Err fault
result_after None commands number lines = with_prefix commands (result_of number lines)

-- the result of a reader, if these lines follow
abbrev pub end_of_lines : LineReader → List (List ℕ) → Result (List Command) TraceFault
end_of_lines r lines = result_after r.fault r.commands r.number lines

-- the reader has read the first lines, and `after` are left
abbrev pub ReadsLines : LineReader → LineReader → List (List ℕ) → List (List ℕ) → Type 0
ReadsLines old new before after = (more : List (List ℕ))
    → end_of_lines new (after ++ more) ≡ end_of_lines old (before ++ more)

-- the text has no bytes after its last newline
abbrev pub HasWholeLines : List ℕ → Type 0
HasWholeLines text = (text ≡ []) ⊎ ((lines : List ℕ) × (text ≡ lines ++ 10 ∷ []))

-- The reader has read the text: whatever follows, its result is that of the whole text.
abbrev pub HasRead : TraceReader → List ℕ → Type 0
HasRead r text = (more : List ℕ)
    → trace (text ++ more) ≡ end_of_lines r.lines (lines_of (r.begun.items ++ more))
