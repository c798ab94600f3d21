-- The text of traces and replies.
use Rattle.std.specs.Prelude.{◌≡◌, ℕ, ◌<◌, ◌^◌, List, [], ◌∷◌, ◌++◌, codes}
use Rattle.std.specs.List.{Any, flat_map}
use Rattle.std.specs.Fmt.{decimal}
use Rattle.ideal_heap.specs.declared.name.Name.{Name}
use Rattle.ideal_heap.specs.declared.command.Command.{Command}
use Rattle.ideal_heap.specs.declared.reply.Reply.{Reply}
use Rattle.ideal_heap.specs.declared.reply.Reply.TheVariants as r
use Rattle.trace_text.specs.Words.{Sort, word_of, letter_of, sorts_of, op_in, arguments_in}
use Rattle.trace_text.specs.Grammar.{header, lines_of}

-- each argument after a space
abbrev pub arguments_text : List Sort → List ℕ → List ℕ
arguments_text [] xs = []
arguments_text (sort ∷ sorts) [] = []
arguments_text (sort ∷ sorts) (x ∷ xs) = 32 ∷ letter_of sort ++ decimal x ++ arguments_text sorts xs

-- the line of a command, without its newline
abbrev pub command_text : Command → List ℕ
command_text c = word_of (op_in c) ++ arguments_text (sorts_of (op_in c)) (arguments_in c)

-- a line and its newline
abbrev pub ended : List ℕ → List ℕ
ended text = text ++ 10 ∷ []

-- the header of a trace with these commands
abbrev pub header_of : List Command → List ℕ
header_of cs = header

-- the header and the lines of the commands
abbrev pub trace_text : List Command → List ℕ
trace_text cs = ended (header_of cs) ++ flat_map (λ c. ended (command_text c)) cs

-- the number of the mutator, a dot, and the number of the birth
abbrev pub name_text : Name → List ℕ
name_text n = decimal n.mutator ++ codes "." ++ decimal n.birth

-- the line of a reply, without its newline
abbrev pub reply_text : Reply → List ℕ
reply_text (r.New n) = codes "new " ++ name_text n
reply_text r.Full = codes "full"
reply_text (r.Ref n) = codes "ref " ++ name_text n
reply_text r.Nil = codes "nil"
reply_text (r.Num n) = codes "num " ++ decimal n
reply_text r.Done = codes "ok"
reply_text r.Yes = codes "yes"
reply_text r.No = codes "no"
reply_text r.Null = codes "null"
reply_text r.Range = codes "range"

-- one line for each reply
abbrev pub replies_text : List Reply → List ℕ
replies_text rs = flat_map (λ x. ended (reply_text x)) rs

-- the line of a mutator, and then its replies
abbrev pub mutator_text : ℕ → List Reply → List ℕ
mutator_text m rs = ended (codes "mutator " ++ decimal m) ++ replies_text rs

-- each number in the reply has 64 bits, as it has in the code: a printed number has at most 64
-- digits
abbrev pub IsPrintable : Reply → Type 0
IsPrintable (r.New n) = (n.mutator < 2 ^ 64) × (n.birth < 2 ^ 64)
IsPrintable (r.Ref n) = (n.mutator < 2 ^ 64) × (n.birth < 2 ^ 64)
IsPrintable (r.Num n) = n < 2 ^ 64
IsPrintable _ = Unit {0}

-- one of the lines of the text is this one
abbrev pub HasLine : List ℕ → List ℕ → Type 0
HasLine text line = Any (λ l. l ≡ line) (lines_of text)

-- the line of a `new` that was refused stands in the text
abbrev pub HasFullLine : List ℕ → Type 0
HasFullLine text = HasLine text (codes "full")
