-- Long lines, shortened as they are read.
use Rattle.std.specs.Prelude.{◌≡◌, ℕ, ◌≤◌, true, false, List, [], ◌∷◌, ◌++◌, length, drop, nat_eq}
use Rattle.std.specs.Char.{is_ascii_digit}
use Rattle.std.specs.List.{AllByRecursion, flat_map, list_all}
use Rattle.trace_text.specs.declared.line_reader.LineReader.{LineReader}
use Rattle.trace_text.specs.declared.short_line.ShortLine.{ShortLine}
use Rattle.trace_text.specs.Grammar.{lines_of}
use Rattle.trace_text.specs.Readers.{end_of_lines}

-- whatever follows, a reader ends alike after the bytes `line` and after `short`
abbrev pub StandsFor : List ℕ → List ℕ → Type 0
StandsFor line short = (r : LineReader) (more : List ℕ)
    → end_of_lines r (lines_of (line ++ more)) ≡ end_of_lines r (lines_of (short ++ more))

-- no byte of the text is this one
abbrev pub Lacks : ℕ → List ℕ → Type 0
Lacks at text = AllByRecursion (λ b. nat_eq b at ≡ false) text

-- words, each with a space after it
abbrev pub spaced : List (List ℕ) → List ℕ
spaced words = flat_map (λ word. word ++ 32 ∷ []) words

-- The shortened line stands for a line without a newline. Its words that have ended are counted up
-- to a limit, and so are the bytes of its last word. If that is spoiled, a byte after its first one
-- is no digit.
pub record IsShort (line : List ℕ) (s : ShortLine) : Type 0 where
  pub stands : StandsFor line s.bytes.items
  pub lacks : Lacks 10 s.bytes.items
  pub words : List (List ℕ)
  pub last : List ℕ
  pub bytes : s.bytes.items ≡ spaced words ++ last
  pub parts : AllByRecursion (Lacks 32) words
  pub unspaced : Lacks 32 last
  pub count : s.words ≤ length words
  pub size : s.last ≤ length last
  pub spoiled : s.is_spoiled ≡ true → list_all is_ascii_digit (drop 1 last) ≡ false
