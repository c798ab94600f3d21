-- The first part of a text that is split at a byte.
use Rattle.std.proofs.Common.{◌≡◌, refl, sym, ◌∙◌, ap, ℕ, zero, suc, ◌+◌, ◌-◌, ◌<◌, arith, false, nat_eq, List, [], ◌∷◌, get_or, take, drop, length, eq-eqb}
use Rattle.std.proofs.lemmas.List.{take_all, length-drop}
use Rattle.std.specs.List.{onto_first, count_by, join_with_byte}
use Rattle.std.proofs.lemmas.List.Splits.{slice_split-cons_yes, slice_split-cons_no, length-slice_split, join_with_byte-slice_split}
use Rattle.std.proofs.lemmas.Bool.{ne_eqb}
use Rattle.std.proofs.Math.Numerals.{add-one}
use Rattle.trace_text.specs.Grammar.{parts_at, lines_of, last_line, without_empty_end}

-- no byte before index k is `at`
abbrev pub NoneBefore : ℕ → List ℕ → ℕ → Type 0
NoneBefore at bytes k = (i : ℕ) → i < k → get_or bytes i 0 ≡ at → ⊥

shifted : (at b : ℕ) (bs : List ℕ) (k : ℕ) → NoneBefore at (b ∷ bs) (suc k) → NoneBefore at bs k
shifted at b bs k none i less same = none (suc i) (omega arith) same

pub found : (at : ℕ) (bytes : List ℕ) (k : ℕ) → k < length bytes → NoneBefore at bytes k → get_or bytes k 0 ≡ at
    → parts_at at bytes ≡ take k bytes ∷ parts_at at (drop (suc k) bytes)
found at [] k within none is = absurd (omega arith)
found at (b ∷ bs) zero within none is = slice_split-cons_yes _ b bs (rw is (eq-eqb at at refl))
found at (b ∷ bs) (suc k) within none is =
    slice_split-cons_no _ b bs (ne_eqb b at (none 0 (omega arith)))
    ∙ ap (onto_first b) (found at bs k (omega arith) (shifted at b bs k none) is)

pub not_found : (at : ℕ) (bytes : List ℕ) → NoneBefore at bytes (length bytes) → parts_at at bytes ≡ bytes ∷ []
not_found at [] none = refl
not_found at (b ∷ bs) none =
    slice_split-cons_no _ b bs (ne_eqb b at (none 0 (omega arith)))
    ∙ ap (onto_first b) (not_found at bs (shifted at b bs (length bs) none))

-- a range to the end is the rest
pub range_to_end : (bytes : List ℕ) (k : ℕ) → take (length bytes - (k + 1)) (drop (k + 1) bytes) ≡ drop (suc k) bytes
range_to_end bytes k =
    take_all (length bytes - (k + 1)) (drop (k + 1) bytes) (let e : length (drop (k + 1) bytes) ≡ length bytes - (k + 1) = length-drop (k + 1) bytes in omega arith)
    ∙ ap (λ n. drop n bytes) (add-one k)

-- there is always a first part
pub not_none : (at : ℕ) (bytes : List ℕ) → nat_eq (length (parts_at at bytes)) 0 ≡ false
not_none at bytes = rw length-slice_split (ne_eqb _ 0 (λ e. omega arith))

-- a part that is not the last is a line
goes_on : (line : List ℕ) (parts : List (List ℕ)) → 0 < length parts → without_empty_end (line ∷ parts) ≡ line ∷ without_empty_end parts
goes_on line [] some = absurd (omega arith)
goes_on line (next ∷ parts) some = refl

pub line_before : (bytes line rest : List ℕ) → parts_at 10 bytes ≡ line ∷ parts_at 10 rest → lines_of bytes ≡ line ∷ lines_of rest
line_before bytes line rest e =
    ap without_empty_end e ∙ goes_on line (parts_at 10 rest) (let more : length (parts_at 10 rest) ≡ count_by (λ b. nat_eq b 10) rest + 1 = length-slice_split _ rest in omega arith)

last_of_some : (line : List ℕ) → 0 < length line → last_line line ≡ line ∷ []
last_of_some [] some = absurd (omega arith)
last_of_some (b ∷ bs) some = refl

-- a text without a newline is one part, and so one line if it has a byte
pub line_alone : (bytes line : List ℕ) → 0 < length bytes → parts_at 10 bytes ≡ line ∷ [] → lines_of bytes ≡ line ∷ []
line_alone bytes line some e =
    let same : line ≡ bytes = ap (join_with_byte 10) (sym e) ∙ join_with_byte-slice_split 10 bytes in
    ap without_empty_end e ∙ last_of_some line (rw same some)
