-- A shortened line keeps its fault.
use Rattle.std.proofs.Common.{◌≡◌, ◌≢◌, refl, sym, ◌∙◌, ap, subst, ℕ, ◌+◌, ◌<◌, ◌≤◌, ◌^◌, inl, inr, ◌⊎◌, arith, rules, Bool, true, false, cond, ◌&&◌, not, nat_eq, List, [], ◌∷◌, ◌++◌, length, get_or, take, drop, append_assoc, Option, Some, None, Ok, Err}
use Rattle.std.specs.Prelude.{if◌then◌else◌}
use Rattle.std.specs.Bool.{Decides}
use Rattle.std.specs.Char.{is_ascii_digit}
use Rattle.std.specs.List.{AllByRecursion, list_all, onto_first}
use Rattle.std.specs.Str.{bytes_eq}
use Rattle.std.specs.Str.Parse.{digits_value}
use Rattle.std.proofs.lemmas.Bool.{and_right, cases_lt, eqb-true, eqb-false, lt-leb, ne_eqb}
use Rattle.std.proofs.lemmas.Fmt.{decimal-digits_value}
use Rattle.std.proofs.lemmas.List.{append-nil, length-append, take_more}
use Rattle.std.proofs.lemmas.List.Folds.{list_all-append}
use Rattle.std.proofs.lemmas.List.Splits.{slice_split-cons_no}
use Rattle.std.proofs.lemmas.Slice.Eq.{bytes_eq-Decides}
use Rattle.std.proofs.lemmas.Str.Parse.{IsNumeralModel, numerals_by_value}
use Rattle.ideal_heap.specs.declared.command.Command.{Command}
use Rattle.trace_text.specs.declared.op.Op.{Op}
use Rattle.trace_text.specs.declared.op.Op.TheVariants.{New, Get, Put, Read, Write, Add, Swap, Move, DropReg, Load, Share, Pin, Unpin, Gc, Meet}
use Rattle.trace_text.specs.declared.fault.Why.TheVariants as why
use Rattle.trace_text.specs.declared.fault.TraceFault.{TraceFault}
use Rattle.trace_text.specs.declared.line_reader.LineReader.{LineReader}
use Rattle.trace_text.specs.declared.short_line.ShortLine.{ShortLine}
use Rattle.trace_text.specs.Words.{Sort, Register, Global, RefCount, NumCount, RefIndex, NumIndex, Value, most_of, word_of, all_ops, sorts_of, command_of}
use Rattle.trace_text.specs.Grammar.{◌>>=◌, parts_at, lines_of, words_of, without_empty_end, numeral, numeral_after, checked, argument, arguments, with_op, if_some, op_of, of_words, line, header}
use Rattle.trace_text.specs.Readers.{result_after, end_of_lines}
use Rattle.trace_text.specs.Shortening.{Lacks, spaced, IsShort, StandsFor}
use Rattle.trace_text.proofs.DigitLemmas.{digit_count}
use Rattle.trace_text.proofs.NumeralLemmas.{no_numeral, zero_numeral, good_numeral}
use Rattle.trace_text.proofs.Spelled.{Lacks-append}
use Rattle.trace_text.proofs.WholeLines.{cut_at, some_part}

-- parts of a text that begins with bytes of one part
pub parts_front : (at : ℕ) (u m p : List ℕ) (ps : List (List ℕ)) → Lacks at u → parts_at at m ≡ p ∷ ps → parts_at at (u ++ m) ≡ (u ++ p) ∷ ps
parts_front at [] m p ps lacks is = is
parts_front at (x ∷ xs) m p ps lacks is = slice_split-cons_no _ x (xs ++ m) lacks.0 ∙ ap (onto_first x) (parts_front at xs m p ps lacks.1 is)

pub first_part : (parts : List (List ℕ)) → 0 < length parts → (p : List ℕ) × (ps : List (List ℕ)) × (parts ≡ p ∷ ps)
first_part [] some = absurd (omega arith)
first_part (p ∷ ps) some = (p, ps, refl)

pub words_before : (ws : List (List ℕ)) (m : List ℕ) → AllByRecursion (Lacks 32) ws → parts_at 32 (spaced ws ++ m) ≡ ws ++ parts_at 32 m
words_before [] m lack = refl
words_before (w ∷ ws) m lack =
    ap (parts_at 32) (append_assoc (w ++ 32 ∷ []) (spaced ws) m ∙ append_assoc w (32 ∷ []) (spaced ws ++ m))
    ∙ cut_at 32 w (spaced ws ++ m) lack.0 ∙ ap (λ l. w ∷ l) (words_before ws m lack.1)

-- numerals of more than 20 digits
own : IsNumeralModel (λ ds. list_all is_ascii_digit ds ≡ true) (digits_value 10)
own = numerals_by_value _ (search rules)

too_great : (w : List ℕ) → list_all is_ascii_digit w ≡ true → 20 < length w → (get_or w 0 0 ≡ 48 → ⊥) → digits_value 10 w < 2 ^ 64 → ⊥
too_great w digits long led small =
    let same = ap length (decimal-digits_value own w digits (omega arith) (λ zeros. absurd (led zeros)) small) in
    let short = digit_count (digits_value 10 w) small in
    omega arith

-- a long word is out of range, or no numeral
long_word : (most : ℕ) (w : List ℕ) (digits leads : Bool) → most < 2 ^ 64 → 20 < length w → list_all is_ascii_digit w ≡ digits → nat_eq (get_or w 0 0) 48 ≡ leads
    → checked most (numeral w) ≡ cond (digits && not leads) (Err why.Range) (Err why.Number)
long_word most w false leads small long is zeros = ap (checked most) (no_numeral w (rw is refl))
long_word most w true true small long is zeros = ap (checked most) (zero_numeral w (eqb-true _ 48 zeros) (omega arith))
long_word most w true false small long is zeros =
    let led : get_or w 0 0 ≡ 48 → ⊥ = eqb-false _ 48 zeros in
    let above : most < digits_value 10 w = elim (cases_lt (digits_value 10 w) (2 ^ 64)) as (λ _. most < digits_value 10 w) [
      | inl less ↦ absurd (too_great w is long led less)
      | inr more ↦ omega arith
    ] in
    ap (checked most) (good_numeral w is (omega arith) (λ e one. absurd (led e))) ∙ rw (lt-leb (digits_value 10 w) most above) refl

-- a byte that goes on in a long word: a digit more, or one in a word that is no numeral
abbrev pub MayGo : List ℕ → ℕ → Type 0
MayGo digits b = (is_ascii_digit b ≡ true) ⊎ (list_all is_ascii_digit digits ≡ false)

digits_same : (u m : List ℕ) (b : ℕ) → MayGo u b → list_all is_ascii_digit (u ++ b ∷ m) ≡ list_all is_ascii_digit (u ++ m)
digits_same u m b (inl digit) =
    list_all-append is_ascii_digit u (b ∷ m) ∙ ap (λ d. list_all is_ascii_digit u && (d && list_all is_ascii_digit m)) digit ∙ sym (list_all-append is_ascii_digit u m)
digits_same u m b (inr spoiled) =
    list_all-append is_ascii_digit u (b ∷ m) ∙ ap (λ d. d && list_all is_ascii_digit (b ∷ m)) spoiled
    ∙ sym (list_all-append is_ascii_digit u m ∙ ap (λ d. d && list_all is_ascii_digit m) spoiled)

same_checked : (most : ℕ) (u m : List ℕ) (b : ℕ) → most < 2 ^ 64 → 20 < length u → MayGo u b → checked most (numeral (u ++ b ∷ m)) ≡ checked most (numeral (u ++ m))
same_checked most [] m b small long go = absurd (omega arith)
same_checked most (x ∷ xs) m b small long go =
    let with_it = length-append xs (b ∷ m) in
    let without = length-append xs m in
    long_word most (x ∷ xs ++ b ∷ m) _ _ small (omega arith) refl refl
    ∙ ap (λ d. cond (d && not (nat_eq x 48)) (Err why.Range) (Err why.Number)) (digits_same (x ∷ xs) m b go)
    ∙ sym (long_word most (x ∷ xs ++ m) _ _ small (omega arith) refl refl)

after_letter : (is : Bool) (most : ℕ) (a c : List ℕ) → checked most (numeral a) ≡ checked most (numeral c)
    → checked most (if is then numeral a else None) ≡ checked most (if is then numeral c else None)
after_letter true most a c same = same
after_letter false most a c same = refl

with_first : (x : ℕ) (xs : List ℕ) (b : ℕ) → MayGo xs b → MayGo (x ∷ xs) b
with_first x xs b (inl digit) = inl digit
with_first x xs b (inr spoiled) = inr (and_right (is_ascii_digit x) _ spoiled)

-- an argument with the byte and without it
pub same_argument : (sort : Sort) (x : ℕ) (xs m : List ℕ) (b : ℕ) → 20 < length xs → MayGo xs b → argument sort (x ∷ xs ++ b ∷ m) ≡ argument sort (x ∷ xs ++ m)
same_argument sort x xs m b long go = by_sort sort
  where
    plain : (most : ℕ) → most < 2 ^ 64 → checked most (numeral (x ∷ xs ++ b ∷ m)) ≡ checked most (numeral (x ∷ xs ++ m))
    plain most small = same_checked most (x ∷ xs) m b small (omega arith) (with_first x xs b go)

    lettered : (letter most : ℕ) → most < 2 ^ 64 → checked most (numeral_after (letter ∷ []) (x ∷ xs ++ b ∷ m)) ≡ checked most (numeral_after (letter ∷ []) (x ∷ xs ++ m))
    lettered letter most small = after_letter (nat_eq x letter) most (xs ++ b ∷ m) (xs ++ m) (same_checked most xs m b small long go)

    by_sort : (sort : Sort) → argument sort (x ∷ xs ++ b ∷ m) ≡ argument sort (x ∷ xs ++ m)
    by_sort Register = lettered 114 (most_of Register) (omega arith)
    by_sort Global = lettered 103 (most_of Global) (omega arith)
    by_sort RefCount = plain (most_of RefCount) (omega arith)
    by_sort NumCount = plain (most_of NumCount) (omega arith)
    by_sort RefIndex = plain (most_of RefIndex) (omega arith)
    by_sort NumIndex = plain (most_of NumIndex) (omega arith)
    by_sort Value = plain (most_of Value) (omega arith)

arguments_same : (sorts : List Sort) (ws ms : List (List ℕ)) (w v : List ℕ) → ((sort : Sort) → argument sort w ≡ argument sort v) → arguments sorts (ws ++ w ∷ ms) ≡ arguments sorts (ws ++ v ∷ ms)
arguments_same [] ws ms w v same = refl
arguments_same (sort ∷ sorts) [] ms w v same = ap (λ r. r >>= λ x. arguments sorts ms >>= λ xs. Ok (x ∷ xs)) (same sort)
arguments_same (sort ∷ sorts) (u ∷ ws) ms w v same = ap (λ r. argument sort u >>= λ x. r >>= λ xs. Ok (x ∷ xs)) (arguments_same sorts ws ms w v same)

-- a long first word is no command
longer_differs : (w word : List ℕ) → length word < length w → bytes_eq w word ≡ false
longer_differs w word longer = go (bytes_eq w word) (bytes_eq-Decides w word)
  where
    go : (r : Bool) → Decides r (w ≡ word) → r ≡ false
    go true same = let e = ap length (same.0 refl) in absurd (omega arith)
    go false differs = refl

short_words : (op : Op) → length (word_of op) ≤ 5
short_words New = omega arith
short_words Get = omega arith
short_words Put = omega arith
short_words Read = omega arith
short_words Write = omega arith
short_words Add = omega arith
short_words Swap = omega arith
short_words Move = omega arith
short_words DropReg = omega arith
short_words Load = omega arith
short_words Share = omega arith
short_words Pin = omega arith
short_words Unpin = omega arith
short_words Gc = omega arith
short_words Meet = omega arith

no_op : (ops : List Op) (w : List ℕ) → 5 < length w → op_of ops w ≡ None
no_op [] w long = refl
no_op (op ∷ ops) w long =
    let short = short_words op in
    ap (λ is. if is then Some op else op_of ops w) (longer_differs w (word_of op) (omega arith)) ∙ no_op ops w long

few_sorts : (op : Op) → length (sorts_of op) ≤ 4
few_sorts New = omega arith
few_sorts Get = omega arith
few_sorts Put = omega arith
few_sorts Read = omega arith
few_sorts Write = omega arith
few_sorts Add = omega arith
few_sorts Swap = omega arith
few_sorts Move = omega arith
few_sorts DropReg = omega arith
few_sorts Load = omega arith
few_sorts Share = omega arith
few_sorts Pin = omega arith
few_sorts Unpin = omega arith
few_sorts Gc = omega arith
few_sorts Meet = omega arith

too_many : (op : Op) (words : List (List ℕ)) → 4 < length words → with_op op words ≡ Err why.Count
too_many op words many =
    let few = few_sorts op in
    ap (λ is. if is then (arguments (sorts_of op) words >>= λ xs. Ok (command_of op xs)) else Err why.Count)
    (ne_eqb (length words) (length (sorts_of op)) (λ e. omega arith))

-- the words of a line with the byte, and without it
same_words : (ws ms : List (List ℕ)) (x : ℕ) (xs m : List ℕ) (b : ℕ) → 20 < length xs → MayGo xs b → of_words all_ops (ws ++ (x ∷ xs ++ b ∷ m) ∷ ms) ≡ of_words all_ops (ws ++ (x ∷ xs ++ m) ∷ ms)
same_words [] ms x xs m b long go =
    let with_it = length-append xs (b ∷ m) in
    let without = length-append xs m in
    ap (λ op. if_some op ms) (no_op all_ops (x ∷ xs ++ b ∷ m) (omega arith) ∙ sym (no_op all_ops (x ∷ xs ++ m) (omega arith)))
same_words (first ∷ ws) ms x xs m b long go = by_op (op_of all_ops first)
  where
    longer : List ℕ
    longer = x ∷ xs ++ b ∷ m

    shorter : List ℕ
    shorter = x ∷ xs ++ m

    count : length (ws ++ longer ∷ ms) ≡ length (ws ++ shorter ∷ ms)
    count = length-append ws (longer ∷ ms) ∙ sym (length-append ws (shorter ∷ ms))

    by_op : (op : Option Op) → if_some op (ws ++ longer ∷ ms) ≡ if_some op (ws ++ shorter ∷ ms)
    by_op None = refl
    by_op (Some op) =
        ap (λ n. if nat_eq n (length (sorts_of op)) then (arguments (sorts_of op) (ws ++ longer ∷ ms) >>= λ xs. Ok (command_of op xs)) else Err why.Count) count
        ∙ ap (λ r. if nat_eq (length (ws ++ shorter ∷ ms)) (length (sorts_of op)) then (r >>= λ xs. Ok (command_of op xs)) else Err why.Count)
        (arguments_same (sorts_of op) ws ms longer shorter (λ sort. same_argument sort x xs m b long go))

many_words : (ws ps qs : List (List ℕ)) → 5 < length ws → of_words all_ops (ws ++ ps) ≡ of_words all_ops (ws ++ qs)
many_words [] ps qs many = absurd (omega arith)
many_words (first ∷ ws) ps qs many = by_op (op_of all_ops first)
  where
    by_op : (op : Option Op) → if_some op (ws ++ ps) ≡ if_some op (ws ++ qs)
    by_op None = refl
    by_op (Some op) =
        let one = length-append ws ps in
        let other = length-append ws qs in
        too_many op (ws ++ ps) (omega arith) ∙ sym (too_many op (ws ++ qs) (omega arith))

line_is : (bytes : List ℕ) → line all_ops bytes ≡ of_words all_ops (words_of bytes)
unfolding line
line_is bytes = refl

words_are : (ws : List (List ℕ)) (last m : List ℕ) → AllByRecursion (Lacks 32) ws → words_of ((spaced ws ++ last) ++ m) ≡ ws ++ parts_at 32 (last ++ m)
words_are ws last m lack = ap (parts_at 32) (append_assoc (spaced ws) last m) ∙ words_before ws (last ++ m) lack

-- the fault of a line with a long last word
pub same_in_word : (ws : List (List ℕ)) (last m : List ℕ) (b : ℕ) → AllByRecursion (Lacks 32) ws → Lacks 32 last → nat_eq b 32 ≡ false → 21 < length last → MayGo (drop 1 last) b
    → line all_ops ((spaced ws ++ last) ++ b ∷ m) ≡ line all_ops ((spaced ws ++ last) ++ m)
same_in_word ws [] m b lack lacks other long go = absurd (omega arith)
same_in_word ws (x ∷ xs) m b lack lacks other long go =
    let first = first_part (parts_at 32 m) (some_part 32 m) in
    let p : List ℕ = first.0 in
    let ps : List (List ℕ) = first.1 in
    let longer : parts_at 32 (b ∷ m) ≡ (b ∷ p) ∷ ps = slice_split-cons_no _ b m other ∙ ap (onto_first b) first.2 in
    line_is ((spaced ws ++ x ∷ xs) ++ b ∷ m)
    ∙ ap (of_words all_ops) (words_are ws (x ∷ xs) (b ∷ m) lack ∙ ap (λ l. ws ++ l) (parts_front 32 (x ∷ xs) (b ∷ m) (b ∷ p) ps lacks longer))
    ∙ same_words ws ps x xs p b (omega arith) go
    ∙ sym (line_is ((spaced ws ++ x ∷ xs) ++ m)
    ∙ ap (of_words all_ops) (words_are ws (x ∷ xs) m lack ∙ ap (λ l. ws ++ l) (parts_front 32 (x ∷ xs) m p ps lacks first.2)))

-- the fault of a line with many words
pub same_after_many : (ws : List (List ℕ)) (last m : List ℕ) (b : ℕ) → AllByRecursion (Lacks 32) ws → 5 < length ws → line all_ops ((spaced ws ++ last) ++ b ∷ m) ≡ line all_ops ((spaced ws ++ last) ++ m)
same_after_many ws last m b lack many =
    line_is ((spaced ws ++ last) ++ b ∷ m) ∙ ap (of_words all_ops) (words_are ws last (b ∷ m) lack)
    ∙ many_words ws (parts_at 32 (last ++ b ∷ m)) (parts_at 32 (last ++ m)) many
    ∙ sym (line_is ((spaced ws ++ last) ++ m) ∙ ap (of_words all_ops) (words_are ws last m lack))

-- the line is the first one of a text that it begins
line_first : (a m p : List ℕ) (ps : List (List ℕ)) → Lacks 10 a → 0 < length a → parts_at 10 m ≡ p ∷ ps → lines_of (a ++ m) ≡ (a ++ p) ∷ without_empty_end ps
line_first [] m p ps lacks some is = absurd (omega arith)
line_first (x ∷ xs) m p ps lacks some is = ap without_empty_end (parts_front 10 (x ∷ xs) m p ps lacks is) ∙ ends ps
  where
    ends : (ps : List (List ℕ)) → without_empty_end ((x ∷ xs ++ p) ∷ ps) ≡ (x ∷ xs ++ p) ∷ without_empty_end ps
    ends [] = refl
    ends (q ∷ qs) = refl

same_result : (fault : Option TraceFault) (commands : List Command) (number : ℕ) (l k : List ℕ) (ls : List (List ℕ)) → line all_ops l ≡ line all_ops k → bytes_eq l header ≡ bytes_eq k header
    → result_after fault commands number (l ∷ ls) ≡ result_after fault commands number (k ∷ ls)
same_result (Some fault) commands number l k ls same_line same_header = refl
same_result None commands number l k ls same_line same_header = rw (same_line, same_header) refl

-- a reader ends alike with the byte and without it
pub same_end : (a : List ℕ) (b : ℕ) → Lacks 10 a → nat_eq b 10 ≡ false → 9 < length a → ((m : List ℕ) → line all_ops (a ++ b ∷ m) ≡ line all_ops (a ++ m))
    → (r : LineReader) (more : List ℕ) → end_of_lines r (lines_of (a ++ b ∷ more)) ≡ end_of_lines r (lines_of (a ++ more))
same_end a b lacks other long same r more =
    let first = first_part (parts_at 10 more) (some_part 10 more) in
    let p : List ℕ = first.0 in
    let ps : List (List ℕ) = first.1 in
    let longer : parts_at 10 (b ∷ more) ≡ (b ∷ p) ∷ ps = slice_split-cons_no _ b more other ∙ ap (onto_first b) first.2 in
    let with_it = length-append a (b ∷ p) in
    let without = length-append a p in
    let headers : bytes_eq (a ++ b ∷ p) header ≡ bytes_eq (a ++ p) header = longer_differs (a ++ b ∷ p) header (omega arith) ∙ sym (longer_differs (a ++ p) header (omega arith)) in
    ap (end_of_lines r) (line_first a (b ∷ more) (b ∷ p) ps lacks (omega arith) longer)
    ∙ same_result r.fault r.commands r.number (a ++ b ∷ p) (a ++ p) (without_empty_end ps) (same p) headers
    ∙ sym (ap (end_of_lines r) (line_first a more p ps lacks (omega arith) first.2))

-- words with their spaces are at least as long as there are words
pub spaced_length : (ws : List (List ℕ)) → length ws ≤ length (spaced ws)
spaced_length [] = omega arith
spaced_length (w ∷ ws) =
    let one = length-append (w ++ 32 ∷ []) (spaced ws) in
    let two = length-append w (32 ∷ []) in
    let rest = spaced_length ws in
    omega arith

-- the byte is lost
pub without_byte : (text : List ℕ) (s : ShortLine) (b : ℕ) → IsShort text s → nat_eq b 10 ≡ false → 9 < length s.bytes.items
    → ((m : List ℕ) → line all_ops (s.bytes.items ++ b ∷ m) ≡ line all_ops (s.bytes.items ++ m)) → IsShort (text ++ b ∷ []) s
without_byte text s b short other long same = record {
  stands = λ r more. ap (λ l. end_of_lines r (lines_of l)) (append_assoc text (b ∷ []) more) ∙ short.stands r (b ∷ more) ∙ same_end s.bytes.items b short.lacks other long same r more;
  lacks = short.lacks;
  words = short.words;
  last = short.last;
  bytes = short.bytes;
  parts = short.parts;
  unspaced = short.unspaced;
  count = short.count;
  size = short.size;
  spoiled = short.spoiled;
}

pub without_after_many : (text : List ℕ) (s : ShortLine) (b : ℕ) → b ≢ 10 → 16 ≤ s.words → IsShort text s → IsShort (text ++ b ∷ []) s
without_after_many text s b other many short =
    let count = short.count in
    let whole = ap length short.bytes ∙ length-append (spaced short.words) short.last in
    let each = spaced_length short.words in
    without_byte text s b short (ne_eqb b 10 other) (omega arith)
    (λ m. subst (λ (l : List ℕ). line all_ops (l ++ b ∷ m) ≡ line all_ops (l ++ m)) (sym short.bytes) (same_after_many short.words short.last m b short.parts (omega arith)))

pub without_in_word : (text : List ℕ) (s : ShortLine) (b : ℕ) → b ≢ 10 → b ≢ 32 → 24 ≤ s.last → (s.is_spoiled ≡ true) ⊎ (is_ascii_digit b ≡ true) → IsShort text s → IsShort (text ++ b ∷ []) s
without_in_word text s b other goes long may short =
    let size = short.size in
    let whole = ap length short.bytes ∙ length-append (spaced short.words) short.last in
    without_byte text s b short (ne_eqb b 10 other) (omega arith)
    (λ m. subst (λ (l : List ℕ). line all_ops (l ++ b ∷ m) ≡ line all_ops (l ++ m)) (sym short.bytes)
    (same_in_word short.words short.last m b short.parts short.unspaced (ne_eqb b 32 goes) (omega arith) (may_go may)))
  where
    may_go : (s.is_spoiled ≡ true) ⊎ (is_ascii_digit b ≡ true) → MayGo (drop 1 short.last) b
    may_go (inl spoiled) = inr (short.spoiled spoiled)
    may_go (inr digit) = inl digit

-- one word more, or one byte more in the last word
spaced_more : (ws : List (List ℕ)) (w : List ℕ) → spaced (ws ++ w ∷ []) ≡ (spaced ws ++ w) ++ 32 ∷ []
spaced_more [] w = append-nil (w ++ 32 ∷ [])
spaced_more (v ∷ ws) w =
    ap (λ l. (v ++ 32 ∷ []) ++ l) (spaced_more ws w) ∙ sym (append_assoc (v ++ 32 ∷ []) (spaced ws ++ w) (32 ∷ []))
    ∙ ap (λ l. l ++ 32 ∷ []) (sym (append_assoc (v ++ 32 ∷ []) (spaced ws) w))

parts_more : (ws : List (List ℕ)) (w : List ℕ) → AllByRecursion (Lacks 32) ws → Lacks 32 w → AllByRecursion (Lacks 32) (ws ++ w ∷ [])
parts_more [] w all one = (one, tt)
parts_more (v ∷ ws) w all one = (all.0, parts_more ws w all.1 one)

stands_more : (text before after : List ℕ) (b : ℕ) → StandsFor text before → after ≡ before ++ b ∷ [] → StandsFor (text ++ b ∷ []) after
stands_more text before after b stands pushed r more =
    ap (λ l. end_of_lines r (lines_of l)) (append_assoc text (b ∷ []) more) ∙ stands r (b ∷ more)
    ∙ ap (λ l. end_of_lines r (lines_of l)) (sym (append_assoc before (b ∷ []) more) ∙ ap (λ l. l ++ more) (sym pushed))

pub with_space : (text : List ℕ) (s t : ShortLine) (b : ℕ) → IsShort text s → b ≡ 32 → t.bytes.items ≡ s.bytes.items ++ b ∷ [] → t.words ≤ s.words + 1 → t.last ≡ 0 → t.is_spoiled ≡ false → IsShort (text ++ b ∷ []) t
with_space text s t b short is pushed one none clean = record {
  stands = stands_more text s.bytes.items t.bytes.items b short.stands pushed;
  lacks = subst (Lacks 10) (sym pushed) (Lacks-append 10 s.bytes.items (b ∷ []) short.lacks (ne_eqb b 10 (λ e. omega arith), tt));
  words = short.words ++ short.last ∷ [];
  last = [];
  bytes = pushed ∙ ap (λ l. l ++ b ∷ []) short.bytes ∙ ap (λ k. (spaced short.words ++ short.last) ++ k ∷ []) is ∙ sym (append-nil (spaced (short.words ++ short.last ∷ [])) ∙ spaced_more short.words short.last);
  parts = parts_more short.words short.last short.parts short.unspaced;
  unspaced = tt;
  count = (let count = short.count in let more = length-append short.words (short.last ∷ []) in omega arith);
  size = omega (arith, none);
  spoiled = λ e. sym e ∙ clean;
}

spoiled_more : (last : List ℕ) (b : ℕ) → list_all is_ascii_digit (drop 1 last) ≡ false → list_all is_ascii_digit (drop 1 (last ++ b ∷ [])) ≡ false
spoiled_more [] b spoiled = spoiled
spoiled_more (x ∷ xs) b spoiled = list_all-append is_ascii_digit xs (b ∷ []) ∙ ap (λ d. d && list_all is_ascii_digit (b ∷ [])) spoiled

spoiled_now : (last : List ℕ) (b : ℕ) → 0 < length last → is_ascii_digit b ≡ false → list_all is_ascii_digit (drop 1 (last ++ b ∷ [])) ≡ false
spoiled_now [] b some spoils = absurd (omega arith)
spoiled_now (x ∷ xs) b some spoils = list_all-append is_ascii_digit xs (b ∷ []) ∙ and_right (list_all is_ascii_digit xs) _ (ap (λ d. d && true) spoils)

pub with_byte : (text : List ℕ) (s t : ShortLine) (b : ℕ) → IsShort text s → b ≢ 10 → b ≢ 32 → t.bytes.items ≡ s.bytes.items ++ b ∷ [] → t.words ≡ s.words → t.last ≤ s.last + 1
    → (t.is_spoiled ≡ true → (s.is_spoiled ≡ true) ⊎ ((0 < s.last) × (is_ascii_digit b ≡ false))) → IsShort (text ++ b ∷ []) t
with_byte text s t b short other goes pushed same most may = record {
  stands = stands_more text s.bytes.items t.bytes.items b short.stands pushed;
  lacks = subst (Lacks 10) (sym pushed) (Lacks-append 10 s.bytes.items (b ∷ []) short.lacks (ne_eqb b 10 other, tt));
  words = short.words;
  last = short.last ++ b ∷ [];
  bytes = pushed ∙ ap (λ l. l ++ b ∷ []) short.bytes ∙ append_assoc (spaced short.words) short.last (b ∷ []);
  parts = short.parts;
  unspaced = Lacks-append 32 short.last (b ∷ []) short.unspaced (ne_eqb b 32 goes, tt);
  count = (let count = short.count in omega arith);
  size = (let size = short.size in let more = length-append short.last (b ∷ []) in omega arith);
  spoiled = λ e. spoils (may e);
}
  where
    spoils : (s.is_spoiled ≡ true) ⊎ ((0 < s.last) × (is_ascii_digit b ≡ false)) → list_all is_ascii_digit (drop 1 (short.last ++ b ∷ [])) ≡ false
    spoils (inl before) = spoiled_more short.last b (short.spoiled before)
    spoils (inr now) = spoiled_now short.last b (let size = short.size in let some = now.0 in omega arith) now.1

-- the next byte of a text, and the end
pub next_byte : (text : List ℕ) (i : ℕ) (s : ShortLine) → i < length text → IsShort (take i text ++ get_or text i 0 ∷ []) s → IsShort (take (i + 1) text) s
next_byte text i s within short = subst (λ (l : List ℕ). IsShort l s) (sym (take_more text i 0 within)) short
