-- What a text is from which numbers are read.
use Rattle.std.proofs.Common.{◌≡◌, refl, sym, ◌∙◌, ap, ℕ, ◌<◌, ◌≤◌, ◌^◌, arith, rules, inl, inr, Bool, true, false, cond, ◌&&◌, not, nat_eq, nat_lt, nat_le, List, [], ◌∷◌, ◌++◌, length, take, drop, get_or, Option, Some, None, Ok, Err, append-nil}
use Rattle.std.specs.Prelude.{eqb, if◌then◌else◌, option_and_then, option_map}
use Rattle.std.specs.Char.{is_ascii_digit}
use Rattle.std.specs.Fmt.{decimal}
use Rattle.std.specs.List.{list_all, position_or_len, starts_with}
use Rattle.std.specs.Str.Parse.{digits_value}
use Rattle.std.proofs.lemmas.Bool.{and_parts, or_cases, not-true, eqb-true, eqb-false, ltb-true, leb-true}
use Rattle.std.proofs.lemmas.Bool.Decides.{Decides-eqb}
use Rattle.std.proofs.lemmas.Slice.Eq.{starts_is}
use Rattle.std.proofs.lemmas.Fmt.{decimal-digits_value}
use Rattle.std.proofs.lemmas.List.{take-append-drop}
use Rattle.std.proofs.lemmas.Str.Parse.{IsNumeralModel, numerals_by_value}
use Rattle.trace_text.specs.declared.fault.Why.{Why}
use Rattle.trace_text.specs.Grammar.{is_numeral, numeral, checked}
use Rattle.heap_picture.specs.declared.forms.Pair.{Pair}
use Rattle.heap_picture.specs.Forms.{Numbered, alone, counted, is_no_digit, number_after, number_first, one_number, two_numbers}

own : IsNumeralModel (λ ds. list_all is_ascii_digit ds ≡ true) (digits_value 10)
own = numerals_by_value _ (search rules)

chosen_some : (b : Bool) (x y : ℕ) → cond b (Some x) None ≡ Some y → (b ≡ true) × (x ≡ y)
chosen_some true x y e = (refl, cc)
chosen_some false x y e = absurd (cc)

decimal-numeral : (word : List ℕ) (n : ℕ) → numeral word ≡ Some n → n < 2 ^ 64 → word ≡ decimal n
decimal-numeral word n e small =
    let is = chosen_some (is_numeral word) (digits_value 10 word) n e in
    let parts = and_parts (list_all is_ascii_digit word && nat_lt 0 (length word)) _ is.0 in
    let front = and_parts (list_all is_ascii_digit word) (nat_lt 0 (length word)) parts.0 in
    let lead : get_or word 0 0 ≡ 48 → length word ≡ 1 = λ first. elim (or_cases (not (nat_eq (get_or word 0 0) 48)) (nat_eq (length word) 1) parts.1) [
      | inl other ↦ absurd (eqb-false (get_or word 0 0) 48 (not-true _ other) first)
      | inr one ↦ eqb-true (length word) 1 one
    ] in
    let value : digits_value 10 word ≡ n = is.1 in
    sym (ap decimal (sym value) ∙ decimal-digits_value own word front.0 (ltb-true 0 (length word) front.1) lead (omega arith))

-- the text is this number's and then the rest
abbrev pub IsNumbered : ℕ → List ℕ → Numbered → Type 0
IsNumbered most text x = (text ≡ decimal x.0 ++ x.1) × (x.0 ≤ most)

bounded : (b : Bool) (most n m : ℕ) (rest : List ℕ) (w : Why) (x : Numbered) → nat_le n most ≡ b → counted (cond b (Ok n) (Err w)) rest ≡ Some x → (n ≡ x.0) × (rest ≡ x.1) × (n ≤ most)
bounded true most n m rest w x is e = (let same : Some (n, rest) ≡ Some x = e in cc, let same : Some (n, rest) ≡ Some x = e in cc, leb-true n most is)
bounded false most n m rest w x is e = absurd (let none : None ≡ Some x = e in cc)

read_by : (most : ℕ) (word rest : List ℕ) (o : Option ℕ) (x : Numbered) → numeral word ≡ o → most < 2 ^ 64 → counted (checked most o) rest ≡ Some x
    → (word ≡ decimal x.0) × (rest ≡ x.1) × (x.0 ≤ most)
read_by most word rest None x is small e = absurd (let none : None ≡ Some x = e in cc)
read_by most word rest (Some n) x is small e =
    let parts = bounded (nat_le n most) most n 0 rest _ x refl e in
    (decimal-numeral word n is (omega (arith, parts.2)) ∙ ap decimal parts.0, parts.1, omega (arith, parts.0, parts.2))

first_read : (most : ℕ) (text : List ℕ) (x : Numbered) → most < 2 ^ 64 → number_first most text ≡ Some x → IsNumbered most text x
first_read most text x small e =
    let k = position_or_len is_no_digit text in
    let parts = read_by most (take k text) (drop k text) (numeral (take k text)) x refl small e in
    (sym (take-append-drop k text) ∙ ap (λ w. w ++ drop k text) parts.0 ∙ ap (λ t. decimal x.0 ++ t) parts.1, parts.2)

after_by : (b : Bool) (word : List ℕ) (most : ℕ) (text : List ℕ) (x : Numbered) → starts_with eqb text word ≡ b → most < 2 ^ 64
    → (if b then number_first most (drop (length word) text) else None) ≡ Some x → (text ≡ word ++ (decimal x.0 ++ x.1)) × (x.0 ≤ most)
after_by true word most text x is small e =
    let rest = first_read most (drop (length word) text) x small e in
    ((starts_is Decides-eqb text word _ refl).0 is ∙ ap (λ t. word ++ t) rest.0, rest.1)
after_by false word most text x is small e = absurd (let none : None ≡ Some x = e in cc)

pub after_read : (word : List ℕ) (most : ℕ) (text : List ℕ) (x : Numbered) → most < 2 ^ 64 → number_after word most text ≡ Some x
    → (text ≡ word ++ (decimal x.0 ++ x.1)) × (x.0 ≤ most)
after_read word most text x small e = after_by (starts_with eqb text word) word most text x refl small e

empty_list : (rest : List ℕ) → length rest ≡ 0 → rest ≡ []
empty_list [] e = refl
empty_list (b ∷ bs) e = absurd (omega (arith, e))

alone_read : (b : Bool) (x : Numbered) (n : ℕ) → nat_eq (length x.1) 0 ≡ b → (if b then Some x.0 else None) ≡ Some n → (x.0 ≡ n) × (x.1 ≡ [])
alone_read true x n is e = (let same : Some x.0 ≡ Some n = e in cc, empty_list x.1 (eqb-true _ _ is))
alone_read false x n is e = absurd (let none : None ≡ Some n = e in cc)

one_by : (word : List ℕ) (most : ℕ) (text : List ℕ) (n : ℕ) (o : Option Numbered) → number_after word most text ≡ o → most < 2 ^ 64 → option_and_then alone o ≡ Some n
    → (text ≡ word ++ decimal n) × (n ≤ most)
one_by word most text n None is small e = absurd (let none : None ≡ Some n = e in cc)
one_by word most text n (Some x) is small e =
    let parts = after_read word most text x small is in
    let last = alone_read (nat_eq (length x.1) 0) x n refl e in
    (parts.0 ∙ ap (λ t. word ++ (decimal x.0 ++ t)) last.1 ∙ ap (λ t. word ++ t) (append-nil (decimal x.0)) ∙ ap (λ k. word ++ decimal k) last.0, omega (arith, last.0, parts.1))

pub one_read : (word : List ℕ) (most : ℕ) (text : List ℕ) (n : ℕ) → most < 2 ^ 64 → one_number word most text ≡ Some n → (text ≡ word ++ decimal n) × (n ≤ most)
one_read word most text n small e = one_by word most text n (number_after word most text) refl small e

pair_by : (first : ℕ) (o : Option ℕ) (x : Pair) → option_map (λ k. record { first = first; second = k }) o ≡ Some x → (first ≡ x.first) × (o ≡ Some x.second)
pair_by first None x e = absurd (let none : None ≡ Some x = e in cc)
pair_by first (Some k) x e = let same : Some (record { first = first; second = k }) ≡ Some x = e in (cc, cc)

two_by : (word other : List ℕ) (most : ℕ) (text : List ℕ) (x : Pair) (o : Option Numbered) → number_after word most text ≡ o → most < 2 ^ 64
    → option_and_then (λ y. option_map (λ k. record { first = y.0; second = k }) (one_number other most y.1)) o ≡ Some x
    → (text ≡ word ++ (decimal x.first ++ (other ++ decimal x.second))) × (x.first ≤ most) × (x.second ≤ most)
two_by word other most text x None is small e = absurd (let none : None ≡ Some x = e in cc)
two_by word other most text x (Some y) is small e =
    let head = after_read word most text y small is in
    let pair = pair_by y.0 (one_number other most y.1) x e in
    let tail = one_read other most y.1 x.second small pair.1 in
    (head.0 ∙ ap (λ t. word ++ (decimal y.0 ++ t)) tail.0 ∙ ap (λ k. word ++ (decimal k ++ (other ++ decimal x.second))) pair.0, omega (arith, head.1, pair.0), tail.1)

pub two_read : (word other : List ℕ) (most : ℕ) (text : List ℕ) (x : Pair) → most < 2 ^ 64 → two_numbers word other most text ≡ Some x
    → (text ≡ word ++ (decimal x.first ++ (other ++ decimal x.second))) × (x.first ≤ most) × (x.second ≤ most)
two_read word other most text x small e = two_by word other most text x (number_after word most text) refl small e
