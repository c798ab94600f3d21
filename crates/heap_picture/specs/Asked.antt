-- What the command line asks for: a file, and the mutator whose objects are marked.
use Rattle.std.specs.Prelude.{ℕ, List, [], ◌∷◌, Option, None, Some, if◌then◌else◌, codes}
use Rattle.std.specs.Str.{bytes_eq}
use Rattle.ideal_heap.specs.declared.command.TheConstants.{MAX_MUTATORS}
use Rattle.command_line.specs.Words.{bounded_numeral, is_file}
use Rattle.heap_picture.specs.declared.words.Asked.{Asked as AskedWords}

pub record Asked : Type 0 where
  pub file : List ℕ
  pub names : Option ℕ

abbrev pub asked_seen : AskedWords → Asked
asked_seen a = record { file = a.file.now; names = a.names }

-- a file alone
abbrev pub of_file : List ℕ → Option ℕ → Option Asked
of_file word names = if is_file word then Some (record { file = word; names = names }) else None

-- a file after the option `--names`
abbrev pub after_names : List ℕ → List ℕ → Option ℕ → Option Asked
after_names option file None = None
after_names option file (Some mutator) =
    if bytes_eq option (codes "--names") then of_file file (Some mutator) else None

-- nothing follows
abbrev pub if_last : Option Asked → List (List ℕ) → Option Asked
if_last asked [] = asked
if_last asked (word ∷ words) = None

-- the words after an option and a number
abbrev pub after_number : List ℕ → List ℕ → List (List ℕ) → Option Asked
after_number option number [] = None
after_number option number (file ∷ words) =
    if_last (after_names option file (bounded_numeral 1 MAX_MUTATORS number)) words

-- what the words ask for; None if they do not match the usage
abbrev pub asked_by : List (List ℕ) → Option Asked
asked_by [] = None
asked_by (file ∷ []) = of_file file None
asked_by (option ∷ number ∷ words) = after_number option number words
