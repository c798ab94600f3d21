-- A text is read exactly where its lines lead from nothing to the end.
use Rattle.std.proofs.Common.{◌≡◌, refl, sym, ◌∙◌, ap, subst, ℕ, ◌+◌, arith, Bool, true, false, ◌&&◌, nat_eq, List, [], ◌∷◌, ◌++◌, length, Option, Some, None, Ok, Err, append_assoc}
use Rattle.std.specs.Prelude.{if◌then◌else◌, Result}
use Rattle.std.specs.List.{AllByRecursion, flat_map, join_with_byte, onto_first}
use Rattle.std.proofs.lemmas.Bool.{and_parts, eqb-true}
use Rattle.std.proofs.lemmas.List.Splits.{slice_split-cons_yes, slice_split-cons_no, join_with_byte-slice_split}
use Rattle.trace_text.specs.Grammar.{parts_at}
use Rattle.trace_text.specs.Text.{ended}
use Rattle.heap_picture.specs.Reading.{Begun, after_line, is_whole, nothing, or_fault, parts_from, text_read}
use Rattle.heap_picture.proofs.Walks.{goes_on}

-- the lines lead from one state to another, at which the text may end
abbrev pub Leads : List (List ℕ) → Begun → Begun → Type 0
Leads [] s end = (s ≡ end) × (is_whole s ≡ true)
Leads (line ∷ lines) s end = (m : Begun) × (after_line s line ≡ Some m) × Leads lines m end

-- no newline is in the line
abbrev pub IsLine : List ℕ → Type 0
IsLine line = AllByRecursion (λ b. nat_eq b 10 ≡ false) line

pub IsLine-append : (xs ys : List ℕ) → IsLine xs → IsLine ys → IsLine (xs ++ ys)
IsLine-append [] ys h k = k
IsLine-append (x ∷ xs) ys h k = (h.0, IsLine-append xs ys h.1 k)

cut : (line rest : List ℕ) → IsLine line → parts_at 10 (line ++ 10 ∷ rest) ≡ line ∷ parts_at 10 rest
cut [] rest is = slice_split-cons_yes _ 10 rest refl
cut (b ∷ bs) rest is = slice_split-cons_no _ b (bs ++ 10 ∷ rest) is.0 ∙ ap (onto_first b) (cut bs rest is.1)

end_read : (n : ℕ) (s end : Begun) → s ≡ end → is_whole s ≡ true → parts_from n s (parts_at 10 []) ≡ Ok end
end_read n s end same whole = ap (λ b. if b then Ok s else Err n) whole ∙ ap Ok same

pub lines_read : (lines : List (List ℕ)) (n : ℕ) (s end : Begun) → AllByRecursion IsLine lines → Leads lines s end
    → parts_from n s (parts_at 10 (flat_map ended lines)) ≡ Ok end
lines_read [] n s end are leads = end_read n s end leads.0 leads.1
lines_read (line ∷ lines) n s end are leads =
    let rest = flat_map ended lines in
    let same : ended line ++ rest ≡ line ++ 10 ∷ rest = append_assoc line (10 ∷ []) rest in
    goes_on n s leads.0 (ended line ++ rest) line rest (ap (parts_at 10) same ∙ cut line rest are.0) leads.1
    ∙ lines_read lines (n + 1) leads.0 end are.1 leads.2

-- lines of which the text is, and which lead to the end
pub record IsOfLines (text : List ℕ) (s end : Begun) : Type 0 where
  pub lines : List (List ℕ)
  pub text_is : text ≡ flat_map ended lines
  pub leads : Leads lines s end

no_bytes : (line : List ℕ) → length line ≡ 0 → line ≡ []
no_bytes [] e = refl
no_bytes (b ∷ bs) e = absurd (omega (arith, e))

last_by : (b : Bool) (n : ℕ) (line : List ℕ) (s end : Begun) → (nat_eq (length line) 0 && is_whole s) ≡ b → (if b then Ok s else Err n) ≡ Ok end → IsOfLines line s end
last_by true n line s end is e =
    let both = and_parts (nat_eq (length line) 0) (is_whole s) is in
    let same : Result.Ok s ≡ Ok end = e in
    record { lines = []; text_is = no_bytes line (eqb-true _ _ both.0); leads = (cc, both.1) }
last_by false n line s end is e = absurd (let wrong : Err n ≡ Ok end = e in cc)

next_by : (o : Option Begun) (n : ℕ) (line : List ℕ) (next : List ℕ) (parts : List (List ℕ)) (s end : Begun) → after_line s line ≡ o
    → or_fault n o (λ more. parts_from (n + 1) more (next ∷ parts)) ≡ Ok end
    → ((m : Begun) → parts_from (n + 1) m (next ∷ parts) ≡ Ok end → IsOfLines (join_with_byte 10 (next ∷ parts)) m end)
    → IsOfLines (join_with_byte 10 (line ∷ next ∷ parts)) s end
next_by None n line next parts s end is e rest = absurd (let wrong : Err n ≡ Ok end = e in cc)
next_by (Some m) n line next parts s end is e rest =
    let later = rest m e in
    record {
      lines = line ∷ later.lines;
      text_is = ap (λ t. line ++ 10 ∷ t) later.text_is ∙ sym (append_assoc line (10 ∷ []) (flat_map ended later.lines));
      leads = (m, is, later.leads);
    }

parts_lead : (parts : List (List ℕ)) (n : ℕ) (s end : Begun) → parts_from n s parts ≡ Ok end → IsOfLines (join_with_byte 10 parts) s end
parts_lead [] n s end e = absurd (let wrong : Err n ≡ Ok end = e in cc)
parts_lead (line ∷ []) n s end e = last_by (nat_eq (length line) 0 && is_whole s) n line s end refl e
parts_lead (line ∷ next ∷ parts) n s end e =
    next_by (after_line s line) n line next parts s end refl e (λ m is. parts_lead (next ∷ parts) (n + 1) m end is)

pub read_lines : (text : List ℕ) (end : Begun) → text_read text ≡ Ok end → IsOfLines text nothing end
unfolding text_read
read_lines text end e = subst (λ t. IsOfLines t nothing end) (join_with_byte-slice_split 10 text) (parts_lead (parts_at 10 text) 1 nothing end e)

pub text_of_lines : (lines : List (List ℕ)) (end : Begun) → AllByRecursion IsLine lines → Leads lines nothing end → text_read (flat_map ended lines) ≡ Ok end
unfolding text_read
text_of_lines lines end are leads = lines_read lines 1 nothing end are leads
