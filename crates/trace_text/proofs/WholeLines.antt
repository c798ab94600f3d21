-- Texts of whole lines, split and joined.
use Rattle.std.proofs.Common.{◌≡◌, refl, sym, ◌∙◌, ap, ℕ, ◌+◌, ◌<◌, arith, Bool, true, false, nat_eq, List, [], ◌∷◌, ◌++◌, length, eq-eqb, append_assoc}
use Rattle.std.specs.List.{flat_map, onto_first, join_with_byte, count_by}
use Rattle.std.proofs.lemmas.List.{append-nil}
use Rattle.std.proofs.lemmas.List.Splits.{slice_split-cons_yes, slice_split-cons_no, length-slice_split, join_with_byte-slice_split}
use Rattle.trace_text.specs.Grammar.{parts_at, lines_of, without_empty_end}
use Rattle.trace_text.specs.Text.{ended}
use Rattle.trace_text.proofs.PartLemmas.{line_before}
use Rattle.trace_text.specs.Shortening.{Lacks}

pub cut_at : (at : ℕ) (xs ys : List ℕ) → Lacks at xs → parts_at at (xs ++ at ∷ ys) ≡ xs ∷ parts_at at ys
cut_at at [] ys lacks = slice_split-cons_yes _ at ys (eq-eqb at at refl)
cut_at at (x ∷ xs) ys lacks = slice_split-cons_no _ x (xs ++ at ∷ ys) lacks.0 ∙ ap (onto_first x) (cut_at at xs ys lacks.1)

pub cut_none : (at : ℕ) (xs : List ℕ) → Lacks at xs → parts_at at xs ≡ xs ∷ []
cut_none at [] lacks = refl
cut_none at (x ∷ xs) lacks = slice_split-cons_no _ x xs lacks.0 ∙ ap (onto_first x) (cut_none at xs lacks.1)

-- each line with its newline
abbrev pub joined : List (List ℕ) → List ℕ
joined lines = flat_map ended lines

abbrev pub AllLack : List (List ℕ) → Type 0
AllLack [] = Unit {0}
AllLack (line ∷ lines) = Lacks 10 line × AllLack lines

pub lines_before : (lines : List (List ℕ)) (more : List ℕ) → AllLack lines → lines_of (joined lines ++ more) ≡ lines ++ lines_of more
lines_before [] more lack = refl
lines_before (line ∷ lines) more lack =
    let rest = joined lines ++ more in
    let regrouped : joined (line ∷ lines) ++ more ≡ line ++ 10 ∷ rest = append_assoc (ended line) (joined lines) more ∙ append_assoc line (10 ∷ []) rest in
    line_before (joined (line ∷ lines) ++ more) line rest (ap (parts_at 10) regrouped ∙ cut_at 10 line rest lack.0)
    ∙ ap (λ ls. line ∷ ls) (lines_before lines more lack.1)

pub lines_again : (lines : List (List ℕ)) → AllLack lines → lines_of (joined lines) ≡ lines
lines_again lines lack = ap lines_of (sym (append-nil (joined lines))) ∙ lines_before lines [] lack ∙ append-nil lines

-- the converse: a text that ends with a newline is its joined lines
onto_first_more : (b : ℕ) (parts more : List (List ℕ)) → 0 < length parts → onto_first b (parts ++ more) ≡ onto_first b parts ++ more
onto_first_more b [] more some = absurd (omega arith)
onto_first_more b (part ∷ parts) more some = refl

pub some_part : (at : ℕ) (bytes : List ℕ) → 0 < length (parts_at at bytes)
some_part at bytes =
    let more : length (parts_at at bytes) ≡ count_by (λ b. nat_eq b at) bytes + 1 = length-slice_split _ bytes in
    omega arith

-- a newline ends a part, and the parts of the text after it follow
more_after : (b : ℕ) (bs more : List ℕ) (is : Bool) → nat_eq b 10 ≡ is → parts_at 10 (bs ++ 10 ∷ more) ≡ parts_at 10 bs ++ parts_at 10 more
    → parts_at 10 (b ∷ bs ++ 10 ∷ more) ≡ parts_at 10 (b ∷ bs) ++ parts_at 10 more
more_after b bs more true is rest =
    slice_split-cons_yes _ b (bs ++ 10 ∷ more) is ∙ ap (λ parts. [] ∷ parts) rest
    ∙ sym (ap (λ parts. parts ++ parts_at 10 more) (slice_split-cons_yes _ b bs is))
more_after b bs more false is rest =
    slice_split-cons_no _ b (bs ++ 10 ∷ more) is ∙ ap (onto_first b) rest
    ∙ onto_first_more b (parts_at 10 bs) (parts_at 10 more) (some_part 10 bs)
    ∙ sym (ap (λ parts. parts ++ parts_at 10 more) (slice_split-cons_no _ b bs is))

pub cut_more : (front more : List ℕ) → parts_at 10 (front ++ 10 ∷ more) ≡ parts_at 10 front ++ parts_at 10 more
cut_more [] more = slice_split-cons_yes _ 10 more refl
cut_more (b ∷ bs) more = more_after b bs more (nat_eq b 10) refl (cut_more bs more)

-- only the last part may be no line
pub keeps_end : (parts more : List (List ℕ)) → 0 < length more → without_empty_end (parts ++ more) ≡ parts ++ without_empty_end more
keeps_end [] more some = refl
keeps_end (part ∷ []) [] some = absurd (omega arith)
keeps_end (part ∷ []) (next ∷ more) some = refl
keeps_end (part ∷ next ∷ parts) more some = ap (λ ls. part ∷ ls) (keeps_end (next ∷ parts) more some)

-- the lines of a text that ends with a newline
pub ended_parts : (front : List ℕ) → lines_of (front ++ 10 ∷ []) ≡ parts_at 10 front
ended_parts front =
    ap without_empty_end (cut_more front []) ∙ keeps_end (parts_at 10 front) ([] ∷ []) (omega arith) ∙ append-nil (parts_at 10 front)

joined_is : (parts : List (List ℕ)) → 0 < length parts → joined parts ≡ join_with_byte 10 parts ++ 10 ∷ []
joined_is [] some = absurd (omega arith)
joined_is (part ∷ []) some = append-nil (ended part)
joined_is (part ∷ next ∷ parts) some =
    append_assoc part (10 ∷ []) (joined (next ∷ parts)) ∙ ap (λ rest. part ++ 10 ∷ rest) (joined_is (next ∷ parts) (omega arith))
    ∙ sym (append_assoc part (10 ∷ join_with_byte 10 (next ∷ parts)) (10 ∷ []))

pub whole_lines : (front : List ℕ) → joined (lines_of (front ++ 10 ∷ [])) ≡ front ++ 10 ∷ []
whole_lines front =
    ap joined (ended_parts front)
    ∙ joined_is (parts_at 10 front) (some_part 10 front) ∙ ap (λ bytes. bytes ++ 10 ∷ []) (join_with_byte-slice_split 10 front)
