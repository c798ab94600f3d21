-- A text, read line by line.
use Rattle.std.proofs.Common.{◌≡◌, ◌∙◌, ap, ℕ, ◌+◌, ◌<◌, arith, ◌&&◌, nat_eq, List, [], ◌∷◌, length, Bool, true, false, Option, Some, None, Ok, Err}
use Rattle.std.specs.Prelude.{if◌then◌else◌}
use Rattle.std.specs.List.{count_by}
use Rattle.std.proofs.lemmas.List.Splits.{length-slice_split}
use Rattle.trace_text.specs.Grammar.{parts_at}
use Rattle.heap_picture.specs.Reading.{Begun, Takes, after_line, is_whole, or_fault, parts_from}

-- there is a first part
some_part : (at : ℕ) (bytes : List ℕ) → 0 < length (parts_at at bytes)
some_part at bytes =
    let more : length (parts_at at bytes) ≡ count_by (λ b. nat_eq b at) bytes + 1 = length-slice_split _ bytes in
    omega arith

line_goes_on : (n : ℕ) (s more : Begun) (line : List ℕ) (parts : List (List ℕ)) → 0 < length parts → after_line s line ≡ Some more
    → parts_from n s (line ∷ parts) ≡ parts_from (n + 1) more parts
line_goes_on n s more line [] some is = absurd (omega arith)
line_goes_on n s more line (next ∷ parts) some is = ap (λ o. or_fault n o (λ s. parts_from (n + 1) s (next ∷ parts))) is

line_stops : (n : ℕ) (s : Begun) (line : List ℕ) (parts : List (List ℕ)) → 0 < length parts → after_line s line ≡ None
    → parts_from n s (line ∷ parts) ≡ Err n
line_stops n s line [] some is = absurd (omega arith)
line_stops n s line (next ∷ parts) some is = ap (λ o. or_fault n o (λ s. parts_from (n + 1) s (next ∷ parts))) is

pub goes_on : (n : ℕ) (s more : Begun) (text line rest : List ℕ) → parts_at 10 text ≡ line ∷ parts_at 10 rest → after_line s line ≡ Some more
    → parts_from n s (parts_at 10 text) ≡ parts_from (n + 1) more (parts_at 10 rest)
goes_on n s more text line rest cut is = ap (parts_from n s) cut ∙ line_goes_on n s more line (parts_at 10 rest) (some_part 10 rest) is

pub stops : (n : ℕ) (s : Begun) (text line rest : List ℕ) → parts_at 10 text ≡ line ∷ parts_at 10 rest → after_line s line ≡ None
    → parts_from n s (parts_at 10 text) ≡ Err n
stops n s text line rest cut is = ap (parts_from n s) cut ∙ line_stops n s line (parts_at 10 rest) (some_part 10 rest) is

pub ends : (n : ℕ) (s : Begun) (text : List ℕ) → parts_at 10 text ≡ text ∷ []
    → parts_from n s (parts_at 10 text) ≡ (if nat_eq (length text) 0 && is_whole s then Ok s else Err n)
ends n s text cut = ap (parts_from n s) cut

pub is_taken : (b : Bool) (o : Option Begun) (now : Begun) → Takes b o now → b ≡ true → o ≡ Some now
is_taken true o now takes is = takes
is_taken false o now takes is = absurd (let wrong : false ≡ true = is in cc)

pub is_none : (b : Bool) (o : Option Begun) (now : Begun) → Takes b o now → b ≡ false → o ≡ None
is_none true o now takes is = absurd (let wrong : true ≡ false = is in cc)
is_none false o now takes is = takes
