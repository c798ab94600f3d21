-- Printed numbers and arguments, and reading them again.
use Rattle.std.proofs.Common.{◌≡◌, refl, sym, ◌∙◌, ap, ℕ, zero, suc, ◌<◌, ◌≤◌, ◌^◌, inl, inr, arith, rules, Bool, true, false, cond, ◌&&◌, not, nat_eq, nat_lt, nat_le, List, [], ◌∷◌, ◌++◌, length, get_or, Option, Some, None, Ok}
use Rattle.std.specs.Char.{is_ascii_digit}
use Rattle.std.specs.Fmt.{decimal}
use Rattle.std.specs.List.{list_all}
use Rattle.std.specs.Str.Parse.{AllDigits, digits_value}
use Rattle.std.proofs.lemmas.Bool.{and_parts, or_cases, not-true, eqb-true, eqb-false, ltb-true, le-leb, ne_eqb}
use Rattle.std.proofs.lemmas.Fmt.{decimal_is_IsNumeral, digits_decimal, digits_value-decimal, decimal_nonempty, decimal_digit, first_decimal, decimal-digits_value}
use Rattle.std.proofs.lemmas.Str.Parse.{IsNumeralModel, numerals_by_value, digit_from_value}
use Rattle.trace_text.specs.declared.fault.Why.TheVariants as why
use Rattle.trace_text.specs.Words.{Sort, Register, Global, RefCount, NumCount, RefIndex, NumIndex, Value, most_of, letter_of}
use Rattle.trace_text.specs.Grammar.{is_numeral, numeral, numeral_after, checked, argument}
use Rattle.trace_text.specs.Shortening.{Lacks}
use Rattle.trace_text.proofs.NumeralLemmas.{good_numeral}
use Rattle.trace_text.proofs.ValidLemmas.{chosen_yes, checked_most}

pub Lacks-append : (at : ℕ) (xs ys : List ℕ) → Lacks at xs → Lacks at ys → Lacks at (xs ++ ys)
Lacks-append at [] ys h k = k
Lacks-append at (x ∷ xs) ys h k = (h.0, Lacks-append at xs ys h.1 k)

own : IsNumeralModel (λ ds. list_all is_ascii_digit ds ≡ true) (digits_value 10)
own = numerals_by_value _ (search rules)

digits_lack : (at : ℕ) → at < 48 → (ds : List ℕ) → AllDigits 10 ds → Lacks at ds
digits_lack at low [] h = tt
digits_lack at low (d ∷ ds) h =
    let digit = digit_from_value d h.0 in
    (ne_eqb d at (λ e. omega arith), digits_lack at low ds h.1)

pub decimal_lacks : (at n : ℕ) → at < 48 → n < 2 ^ 64 → Lacks at (decimal n)
decimal_lacks at n low small = digits_lack at low (decimal n) (decimal_is_IsNumeral n small).0.1

-- a number's digits begin with 0 only if they are the one digit 0
led_well : (n : ℕ) → n < 2 ^ 64 → get_or (decimal n) 0 0 ≡ 48 → 1 < length (decimal n) → ⊥
led_well zero small first long = omega (arith, ap length (decimal_digit 0 (omega arith)))
led_well (suc n) small first long = omega (arith, first_decimal (suc n) (omega arith) small)

pub numeral-decimal : (n : ℕ) → n < 2 ^ 64 → numeral (decimal n) ≡ Some n
numeral-decimal n small =
    good_numeral (decimal n) (digits_decimal own n small) (decimal_nonempty n small) (led_well n small)
    ∙ ap Some (digits_value-decimal own n small)

checked-Some : (most n : ℕ) → n ≤ most → checked most (Some n) ≡ Ok n
checked-Some most n within = rw (le-leb n most within) refl

pub most_small : (sort : Sort) → most_of sort < 2 ^ 64
most_small Register = omega arith
most_small Global = omega arith
most_small RefCount = omega arith
most_small NumCount = omega arith
most_small RefIndex = omega arith
most_small NumIndex = omega arith
most_small Value = omega arith

-- an argument with its letter
abbrev pub argument_text : Sort → ℕ → List ℕ
argument_text sort n = letter_of sort ++ decimal n

after_letter : (sort : Sort) (word : List ℕ) → numeral_after (letter_of sort) (letter_of sort ++ word) ≡ numeral word
after_letter Register word = refl
after_letter Global word = refl
after_letter RefCount word = refl
after_letter NumCount word = refl
after_letter RefIndex word = refl
after_letter NumIndex word = refl
after_letter Value word = refl

pub argument_again : (sort : Sort) (n : ℕ) → n ≤ most_of sort → argument sort (argument_text sort n) ≡ Ok n
argument_again sort n within =
    ap (checked (most_of sort)) (after_letter sort (decimal n) ∙ numeral-decimal n (omega (arith, most_small sort)))
    ∙ checked-Some (most_of sort) n within

mark_lacks : (at : ℕ) → at < 48 → (sort : Sort) → Lacks at (letter_of sort)
mark_lacks at low Register = (ne_eqb 114 at (λ e. omega arith), tt)
mark_lacks at low Global = (ne_eqb 103 at (λ e. omega arith), tt)
mark_lacks at low RefCount = tt
mark_lacks at low NumCount = tt
mark_lacks at low RefIndex = tt
mark_lacks at low NumIndex = tt
mark_lacks at low Value = tt

pub argument_lacks : (at : ℕ) → at < 48 → (sort : Sort) (n : ℕ) → n ≤ most_of sort → Lacks at (argument_text sort n)
argument_lacks at low sort n within =
    Lacks-append at (letter_of sort) (decimal n) (mark_lacks at low sort) (decimal_lacks at n low (omega (arith, most_small sort)))

-- the converse: a numeral is the digits of its number
chosen_some : (b : Bool) (x y : ℕ) → cond b (Some x) None ≡ Some y → (b ≡ true) × (x ≡ y)
chosen_some true x y e = (refl, cc)
chosen_some false x y e = absurd (cc)

pub decimal-numeral : (word : List ℕ) (n : ℕ) → numeral word ≡ Some n → n < 2 ^ 64 → word ≡ decimal n
decimal-numeral word n e small =
    let is = chosen_some (is_numeral word) (digits_value 10 word) n e in
    let parts = and_parts (list_all is_ascii_digit word && nat_lt 0 (length word)) _ is.0 in
    let front = and_parts (list_all is_ascii_digit word) (nat_lt 0 (length word)) parts.0 in
    let lead : get_or word 0 0 ≡ 48 → length word ≡ 1 = λ first. elim (or_cases (not (nat_eq (get_or word 0 0) 48)) (nat_eq (length word) 1) parts.1) [
      | inl other ↦ absurd (eqb-false (get_or word 0 0) 48 (not-true _ other) first)
      | inr one ↦ eqb-true (length word) 1 one
    ] in
    let value : digits_value 10 word ≡ n = is.1 in
    sym (ap decimal (sym value) ∙ decimal-digits_value own word front.0 (ltb-true 0 (length word) front.1) lead (omega arith))

checked_is : (most : ℕ) (o : Option ℕ) (n : ℕ) → checked most o ≡ Ok n → o ≡ Some n
checked_is most None n e = absurd (cc)
checked_is most (Some m) n e =
    let which = chosen_yes (nat_le m most) (Ok m) why.Range n e in
    let same : m ≡ n = cc in
    ap Some same

chosen_behind : (b : Bool) (o : Option ℕ) (n : ℕ) → cond b o None ≡ Some n → (b ≡ true) × (o ≡ Some n)
chosen_behind true o n e = (refl, e)
chosen_behind false o n e = absurd (cc)

spelled_after : (letter word : List ℕ) (n : ℕ) → numeral_after letter word ≡ Some n → (digits : List ℕ) × (word ≡ letter ++ digits) × (numeral digits ≡ Some n)
spelled_after [] word n e = (word, refl, e)
spelled_after (m ∷ ms) [] n e = absurd (cc)
spelled_after (m ∷ ms) (b ∷ bs) n e =
    let which = chosen_behind (nat_eq b m) (numeral_after ms bs) n e in
    let same : b ≡ m = eqb-true b m which.0 in
    let rest = spelled_after ms bs n which.1 in
    (rest.0, ap (λ x. x ∷ bs) same ∙ ap (λ ys. m ∷ ys) rest.1, rest.2)

pub argument_is : (sort : Sort) (word : List ℕ) (n : ℕ) → argument sort word ≡ Ok n → word ≡ argument_text sort n
argument_is sort word n e =
    let within = checked_most (most_of sort) (numeral_after (letter_of sort) word) n e in
    let rest = spelled_after (letter_of sort) word n (checked_is (most_of sort) (numeral_after (letter_of sort) word) n e) in
    rest.1 ∙ ap (λ digits. letter_of sort ++ digits) (decimal-numeral rest.0 n rest.2 (omega (arith, most_small sort)))
