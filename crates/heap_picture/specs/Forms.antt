-- The lines of a run's text: words, each with a number after it.
use Rattle.std.specs.Prelude.{ℕ, Bool, true, false, not, ◌||◌, List, length, drop, Option, None, Some, Result, Ok, Err}
use Rattle.std.specs.Prelude.{nat_eq, eqb, if◌then◌else◌, codes, is_some, option_and_then, option_map}
use Rattle.std.specs.List.{starts_with, before_first, position_or_len}
use Rattle.std.specs.Char.{is_ascii_digit}
use Rattle.std.specs.Str.{bytes_eq}
use Rattle.trace_text.specs.declared.fault.Why.{Why}
use Rattle.trace_text.specs.Grammar.{checked, numeral}
use Rattle.heap_picture.specs.declared.forms.Pair.{Pair}
use Rattle.heap_picture.specs.declared.forms.KindCounts.{KindCounts}
use Rattle.heap_picture.specs.declared.forms.Place.{Place}

-- the greatest numbers of 32 and of 64 bits
abbrev pub SMALL : ℕ
SMALL = 4294967295

abbrev pub LARGE : ℕ
LARGE = 18446744073709551615

-- a number, and the text after it
abbrev pub Numbered : Type 0
Numbered = ℕ × List ℕ

abbrev pub is_no_digit : ℕ → Bool
is_no_digit b = not (is_ascii_digit b)

abbrev pub counted : Result ℕ Why → List ℕ → Option Numbered
counted (Ok n) rest = Some (n, rest)
counted (Err e) rest = None

-- the number, of at most `most`, whose numeral the text begins with
abbrev pub number_first : ℕ → List ℕ → Option Numbered
number_first most text = counted
    (checked most (numeral (before_first is_no_digit text)))
    (drop (position_or_len is_no_digit text) text)

-- the number after the word that the text begins with
abbrev pub number_after : List ℕ → ℕ → List ℕ → Option Numbered
number_after word most text =
    if starts_with eqb text word then number_first most (drop (length word) text) else None

-- the number, if nothing follows it
abbrev pub alone : Numbered → Option ℕ
alone x = if nat_eq (length x.1) 0 then Some x.0 else None

-- the number on a line of a word and a number
abbrev pub one_number : List ℕ → ℕ → List ℕ → Option ℕ
one_number word most line = option_and_then alone (number_after word most line)

-- the numbers on a line of two words, each with a number
abbrev pub two_numbers : List ℕ → List ℕ → ℕ → List ℕ → Option Pair
two_numbers word other most line = option_and_then
    (λ x. option_map (λ n. record { first = x.0; second = n }) (one_number other most x.1))
    (number_after word most line)

-- where an object lies, from its line of the map
abbrev pub place_in : List ℕ → Option Place
place_in line = option_and_then
    (λ mutator. option_and_then
    (λ birth. option_and_then
    (λ block. option_map
    (λ part. record {
      mutator = mutator.0;
      birth = birth.0;
      block = block.0;
      word = part.first;
      size = part.second;
    })
    (two_numbers (codes " word ") (codes " size ") SMALL block.1))
    (number_after (codes " block ") SMALL birth.1))
    (number_after (codes ".") SMALL mutator.1))
    (number_after (codes "map ") SMALL line)

-- how many blocks there are of each kind, from the line of kinds
abbrev pub kinds_in : List ℕ → Option KindCounts
kinds_in line = option_and_then
    (λ free. option_and_then
    (λ bump. option_and_then
    (λ young. option_and_then
    (λ mature. option_and_then
    (λ immix. option_and_then
    (λ cells. option_map
    (λ ends. record {
      free = free.0;
      bump = bump.0;
      young = young.0;
      mature = mature.0;
      immix = immix.0;
      cells = cells.0;
      large = ends.first;
      kept = ends.second;
    })
    (two_numbers (codes " large ") (codes " kept ") LARGE cells.1))
    (number_after (codes " cells ") LARGE immix.1))
    (number_after (codes " immix ") LARGE mature.1))
    (number_after (codes " mature ") LARGE young.1))
    (number_after (codes " young ") LARGE bump.1))
    (number_after (codes " bump ") LARGE free.1))
    (number_after (codes "kinds free ") LARGE line)

-- a reply that is one word, other than `full`
abbrev pub is_plain_reply : List ℕ → Bool
is_plain_reply line = bytes_eq line (codes "nil") || bytes_eq line (codes "ok")
    || bytes_eq line (codes "yes") || bytes_eq line (codes "no")
    || bytes_eq line (codes "null") || bytes_eq line (codes "range")

-- the name in a `new` reply
abbrev pub name_in : List ℕ → Option Pair
name_in line = two_numbers (codes "new ") (codes ".") LARGE line

-- the name in a `ref` reply
abbrev pub ref_in : List ℕ → Option Pair
ref_in line = two_numbers (codes "ref ") (codes ".") LARGE line

-- a reply with a name or a number
abbrev pub is_numbered_reply : List ℕ → Bool
is_numbered_reply line = is_some (name_in line)
    || is_some (ref_in line)
    || is_some (one_number (codes "num ") LARGE line)

-- the line is a reply: whether it says that the heap is full
abbrev pub reply_in : List ℕ → Option Bool
reply_in line = if bytes_eq line (codes "full") then Some true
    else if is_plain_reply line || is_numbered_reply line then Some false else None
