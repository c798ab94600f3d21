-- The grammar of a trace, and its faults: the first bad line, and the first fault in it from the
-- left.
use Rattle.std.specs.Prelude.{◌≡◌, ℕ, ◌+◌, Bool, ◌&&◌, ◌||◌, not, List, [], ◌∷◌, length, Option, None, Some, Result, Ok}
use Rattle.std.specs.Prelude.{Err, nat_eq, nat_lt, nat_le, if◌then◌else◌, slice_index, codes, find}
use Rattle.std.specs.List.{list_all, slice_split}
use Rattle.std.specs.Char.{is_ascii_digit}
use Rattle.std.specs.Str.{bytes_eq}
use Rattle.std.specs.Str.Parse.{digits_value}
use Rattle.ideal_heap.specs.declared.command.Command.{Command}
use Rattle.trace_text.specs.declared.limits.TheConstants.{MAX_COMMANDS}
use Rattle.trace_text.specs.declared.op.Op.{Op}
use Rattle.trace_text.specs.declared.fault.Why.{Why}
use Rattle.trace_text.specs.declared.fault.Why.TheVariants as why
use Rattle.trace_text.specs.declared.fault.TraceFault.{TraceFault}
use Rattle.trace_text.specs.declared.fault.TraceFault.TheVariants.{Line, TooMany, OutOfMemory}
use Rattle.trace_text.specs.Words.{Sort, most_of, letter_of, word_of, all_ops, sorts_of, command_of}

-- continue with the value, or return the error
infixl 10 ◌>>=◌
abbrev pub ◌>>=◌ : {A B E : Type 0} → Result A E → (A → Result B E) → Result B E
(Ok x) >>= f = f x
(Err e) >>= f = Err e

-- the bytes after the last newline: a line if there is a byte
abbrev pub last_line : List ℕ → List (List ℕ)
last_line [] = []
last_line (b ∷ bs) = (b ∷ bs) ∷ []

-- the lines, from the parts that newlines separate
abbrev pub without_empty_end : List (List ℕ) → List (List ℕ)
without_empty_end [] = []
without_empty_end (line ∷ []) = last_line line
without_empty_end (line ∷ next ∷ lines) = line ∷ without_empty_end (next ∷ lines)

-- the parts of a text, split at each occurrence of the byte
abbrev pub parts_at : ℕ → List ℕ → List (List ℕ)
parts_at byte text = slice_split (λ b. nat_eq b byte) text

-- the lines of a text, split at each newline
abbrev pub lines_of : List ℕ → List (List ℕ)
lines_of text = without_empty_end (parts_at 10 text)

-- the words of a line, split at each space
abbrev pub words_of : List ℕ → List (List ℕ)
words_of line = parts_at 32 line

-- `0`, or digits that do not begin with 0
abbrev pub is_numeral : List ℕ → Bool
is_numeral word = list_all is_ascii_digit word && nat_lt 0 (length word)
    && (not (nat_eq (slice_index word 0) 48) || nat_eq (length word) 1)

-- the number of a numeral
abbrev pub numeral : List ℕ → Option ℕ
numeral word = if is_numeral word then Some (digits_value 10 word) else None

-- the number of a numeral after these letters
abbrev pub numeral_after : List ℕ → List ℕ → Option ℕ
numeral_after [] word = numeral word
numeral_after (m ∷ ms) [] = None
numeral_after (m ∷ ms) (b ∷ bs) = if nat_eq b m then numeral_after ms bs else None

-- the number; the fault is Number if there is none, and Range if it is above `most`
abbrev pub checked : ℕ → Option ℕ → Result ℕ Why
checked most None = Err why.Number
checked most (Some n) = if nat_le n most then Ok n else Err why.Range

-- the number of an argument, or its fault
abbrev pub argument : Sort → List ℕ → Result ℕ Why
argument sort word = checked (most_of sort) (numeral_after (letter_of sort) word)

-- the numbers of all arguments, or the fault of the first bad one from the left
abbrev pub arguments : List Sort → List (List ℕ) → Result (List ℕ) Why
arguments [] words = Ok []
arguments (sort ∷ sorts) [] = Ok []
arguments (sort ∷ sorts) (word ∷ words) =
    argument sort word >>= λ x. arguments sorts words >>= λ xs. Ok (x ∷ xs)

-- the number of arguments is checked before the arguments are read
abbrev pub with_op : Op → List (List ℕ) → Result Command Why
with_op op words =
    if nat_eq (length words) (length (sorts_of op)) then
    (arguments (sorts_of op) words >>= λ xs. Ok (command_of op xs)) else Err why.Count

-- a word that names no operation is a fault
abbrev pub if_some : Option Op → List (List ℕ) → Result Command Why
if_some None words = Err why.Word
if_some (Some op) words = with_op op words

-- the operation of this list that the word names
abbrev pub op_of : List Op → List ℕ → Option Op
op_of ops word = find (λ op. bytes_eq word (word_of op)) ops

-- the first word names the operation, and the others are its arguments
abbrev pub of_words : List Op → List (List ℕ) → Result Command Why
of_words ops [] = Err why.Word
of_words ops (word ∷ words) = if_some (op_of ops word) words

-- the command of a line, with one of these operations
unfoldable pub line : List Op → List ℕ → Result Command Why
line ops bytes = of_words ops (words_of bytes)

-- the fault of a line, with the number of the line
abbrev pub at_line : {C : Type 0} → ℕ → Result C Why → Result C TraceFault
at_line n (Ok c) = Ok c
at_line n (Err w) = Err (Line n w)

-- the commands of these lines, the first of which has number n
abbrev pub lines_from : {C : Type 0} → (List ℕ → Result C Why) → ℕ → List (List ℕ)
    → Result (List C) TraceFault
lines_from read n [] = Ok []
lines_from read n (l ∷ ls) =
    if nat_lt (MAX_COMMANDS + 1) n then Err TooMany else
    (at_line n (read l) >>= λ c. lines_from read (n + 1) ls >>= λ cs. Ok (c ∷ cs))

-- the first line of a trace
abbrev pub header : List ℕ
header = codes "mmtrace 1"

-- the operations that the first line permits; None if it is no header
abbrev pub opened_by : List ℕ → Option (List Op)
opened_by l = if bytes_eq l header then Some all_ops else None

-- the commands of the lines after the header, with these operations
abbrev pub lines_under : Option (List Op) → List (List ℕ) → Result (List Command) TraceFault
lines_under None ls = Err (Line 1 why.Header)
lines_under (Some ops) ls = lines_from (line ops) 2 ls

-- the commands of all lines, the first of which is the header
abbrev pub with_header : List (List ℕ) → Result (List Command) TraceFault
with_header [] = Err (Line 1 why.Header)
with_header (l ∷ ls) = lines_under (opened_by l) ls

-- the commands of a text, or its fault
unfoldable pub trace : List ℕ → Result (List Command) TraceFault
trace bytes = with_header (lines_of bytes)

-- the result of the call, mapped by `view`, is `read`, unless the call ran out of memory
abbrev pub Gives : {X Y : Type 0} → (X → Y) → Result X TraceFault → Result Y TraceFault → Type 0
Gives view (Ok x) read = read ≡ Ok (view x)
Gives view (Err OutOfMemory) read = Unit {0}
Gives view (Err (Line n w)) read = read ≡ Err (Line n w)
Gives view (Err TooMany) read = read ≡ Err TooMany
