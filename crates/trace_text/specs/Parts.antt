-- Parts of a text, and what the functions of the reader return for them.
use Rattle.std.specs.Prelude.{◌≡◌, ℕ, ◌<◌, ◌≤◌, false, List, [], ◌∷◌, ◌++◌, length, drop, Option, None, Some, Result}
use Rattle.std.specs.Prelude.{nat_eq}
use Rattle.std.specs.Borrow.{Bor}
use Rattle.std.specs.Fmt.{decimal}
use Rattle.ideal_heap.specs.declared.command.Command.{Command}
use Rattle.ideal_heap.specs.Commands.{IsValid}
use Rattle.trace_text.specs.declared.fault.Why.{Why}
use Rattle.trace_text.specs.declared.fault.Why.TheVariants as why
use Rattle.trace_text.specs.Words.{Sort, letter_of, all_ops}
use Rattle.trace_text.specs.Text.{command_text}
use Rattle.trace_text.specs.Grammar.{parts_at, lines_of, line}

-- the parts of the rest, if there is a rest
abbrev pub parts_after : ℕ → Option (Bor (List ℕ)) → List (List ℕ)
parts_after byte None = []
parts_after byte (Some rest) = parts_at byte rest.now

-- the words of the rest of a line
abbrev pub words_after : Option (Bor (List ℕ)) → List (List ℕ)
words_after rest = parts_after 32 rest

-- the fault is Count, and there are not n words
abbrev pub IsCountFault : ℕ → List (List ℕ) → Why → Type 0
IsCountFault n words fault = (fault ≡ why.Count) × (nat_eq (length words) n ≡ false)

-- a piece of the text goes from one place to another
abbrev pub HasPiece : List ℕ → ℕ → List ℕ → ℕ → Type 0
HasPiece text at piece end = drop at text ≡ piece ++ drop end text

-- an argument with the space before it
abbrev pub spaced_argument : Sort → ℕ → List ℕ
spaced_argument sort n = 32 ∷ letter_of sort ++ decimal n

-- the text begins with the line of c, which is valid, and the next line begins at offset `end`
abbrev pub IsFirstLine : Command → List ℕ → ℕ → Type 0
IsFirstLine c text end = IsValid c × (end ≤ length text)
    × (text ≡ command_text c ++ 10 ∷ drop end text)

-- the result of reading the first line of the text is `read`, and `rest` has the other lines
abbrev pub IsReadAs : List ℕ → Result Command Why → List ℕ → Type 0
IsReadAs text read rest = (first : List ℕ) × (lines_of text ≡ first ∷ lines_of rest)
    × (read ≡ line all_ops first)

-- the option holds n if n is at most `most`, and is None otherwise
abbrev pub IsUpTo : ℕ → ℕ → Option ℕ → Type 0
IsUpTo most n None = most < n
IsUpTo most n (Some value) = (value ≡ n) × (n ≤ most)
