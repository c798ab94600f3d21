-- Printed numbers, and reading them again.
use Rattle.std.proofs.Common.{◌≡◌, refl, sym, ◌∙◌, ap, ℕ, zero, suc, ◌+◌, ◌<◌, ◌≤◌, ◌^◌, arith, rules, inl, inr, Bool, true, false, ◌&&◌, ◌||◌, cond, not, nat_eq, nat_lt, List, [], ◌++◌, length, take, drop, get_or, Some, None, Ok, append-nil, length-append, ◌-◌}
use Rattle.std.specs.Char.{is_ascii_digit}
use Rattle.std.specs.Prelude.{eqb, if◌then◌else◌, option_and_then, option_map}
use Rattle.std.specs.Fmt.{decimal}
use Rattle.std.specs.List.{list_all, position_or_len, starts_with}
use Rattle.std.specs.Str.Parse.{digits_value}
use Rattle.std.proofs.lemmas.Bool.{and_from, cases_eq, eq-eqb, le-leb, lt-ltb, ne_eqb, or_left, or_right, true≢false}
use Rattle.std.proofs.lemmas.Bool.Decides.{Decides-eqb}
use Rattle.std.proofs.lemmas.Slice.Eq.{starts_is}
use Rattle.std.proofs.lemmas.Fmt.{digits_decimal, digits_value-decimal, decimal_nonempty, decimal_digit, first_decimal}
use Rattle.std.proofs.lemmas.List.Folds.{list_all_at}
use Rattle.std.proofs.lemmas.List.Sums.{position_or_len_is}
use Rattle.std.proofs.Math.ListN.{get_or-append}
use Rattle.std.proofs.Math.Seq.{get_or-append_right, drop-append_seam, take-append_seam}
use Rattle.std.proofs.lemmas.Str.Parse.{IsNumeralModel, numerals_by_value}
use Rattle.trace_text.specs.Grammar.{numeral, checked}
use Rattle.heap_picture.specs.Forms.{alone, counted, is_no_digit, number_after, number_first, one_number, two_numbers}

own : IsNumeralModel (λ ds. list_all is_ascii_digit ds ≡ true) (digits_value 10)
own = numerals_by_value _ (search rules)

-- no digit follows
abbrev pub EndsNumber : List ℕ → Type 0
EndsNumber rest = 0 < length rest → is_no_digit (get_or rest 0 0) ≡ true

no_digit_at : (ds : List ℕ) (i : ℕ) (b : Bool) → is_ascii_digit (get_or ds i 0) ≡ b → i < length ds → list_all is_ascii_digit ds ≡ true → is_no_digit (get_or ds i 0) ≡ false
no_digit_at ds i true is low all = ap not is
no_digit_at ds i false is low all = absurd (true≢false (sym all ∙ list_all_at is_ascii_digit ds i 0 low is))

each_digit : (ds : List ℕ) (i : ℕ) → i < length ds → list_all is_ascii_digit ds ≡ true → is_no_digit (get_or ds i 0) ≡ false
each_digit ds i low all = no_digit_at ds i (is_ascii_digit (get_or ds i 0)) refl low all

digits_end : (n : ℕ) (rest : List ℕ) → n < 2 ^ 64 → EndsNumber rest → position_or_len is_no_digit (decimal n ++ rest) ≡ length (decimal n)
digits_end n rest small end =
    let ds = decimal n in
    let longer : length (ds ++ rest) ≡ length ds + length rest = length-append ds rest in
    let here : length ds - length ds ≡ 0 = omega arith in
    position_or_len_is is_no_digit (ds ++ rest) (length ds) 0 (omega (arith, longer))
    (λ k low. ap is_no_digit (get_or-append ds rest 0 k low) ∙ each_digit ds k low (digits_decimal own n small))
    (λ low. ap is_no_digit (get_or-append_right ds rest (length ds) 0 (omega arith) ∙ ap (λ k. get_or rest k 0) here) ∙ end (omega (arith, longer, low)))

-- a number's digits begin with 0 only if they are the one digit 0
led_well : (n : ℕ) → n < 2 ^ 64 → get_or (decimal n) 0 0 ≡ 48 → 1 < length (decimal n) → ⊥
led_well zero small first long = omega (arith, ap length (decimal_digit 0 (omega arith)))
led_well (suc n) small first long = omega (arith, first_decimal (suc n) (omega arith) small)

good_numeral : (word : List ℕ) → list_all is_ascii_digit word ≡ true → 0 < length word → (get_or word 0 0 ≡ 48 → 1 < length word → ⊥) → numeral word ≡ Some (digits_value 10 word)
good_numeral word digits some led =
    let front : (list_all is_ascii_digit word && nat_lt 0 (length word)) ≡ true = and_from _ _ digits (lt-ltb 0 (length word) some) in
    let led_right : (not (nat_eq (get_or word 0 0) 48) || nat_eq (length word) 1) ≡ true =
    elim (cases_eq (length word) 1) [
      | inl one ↦ or_right _ _ (eq-eqb _ _ one)
      | inr more ↦ or_left _ _ (ap not (ne_eqb (get_or word 0 0) 48 (λ e. led e (omega (arith, more)))))
    ] in
    ap (λ b. cond b (Some (digits_value 10 word)) None) (and_from _ _ front led_right)

numeral-decimal : (n : ℕ) → n < 2 ^ 64 → numeral (decimal n) ≡ Some n
numeral-decimal n small =
    good_numeral (decimal n) (digits_decimal own n small) (decimal_nonempty n small) (led_well n small)
    ∙ ap Some (digits_value-decimal own n small)

checked-Some : (most n : ℕ) → n ≤ most → checked most (Some n) ≡ Ok n
checked-Some most n within = rw (le-leb n most within) refl

first_again : (most n : ℕ) (rest : List ℕ) → n ≤ most → most < 2 ^ 64 → EndsNumber rest → number_first most (decimal n ++ rest) ≡ Some (n, rest)
first_again most n rest within small end =
    let ds = decimal n in
    let fits : n < 2 ^ 64 = omega arith in
    ap (λ k. counted (checked most (numeral (take k (ds ++ rest)))) (drop k (ds ++ rest))) (digits_end n rest fits end)
    ∙ ap (λ w. counted (checked most (numeral w)) (drop (length ds) (ds ++ rest))) (take-append_seam ds rest)
    ∙ ap (λ t. counted (checked most (numeral ds)) t) (drop-append_seam ds rest)
    ∙ ap (λ r. counted r rest) (ap (checked most) (numeral-decimal n fits) ∙ checked-Some most n within)

begins : (word rest : List ℕ) → starts_with eqb (word ++ rest) word ≡ true
begins word rest = (starts_is Decides-eqb (word ++ rest) word _ refl).1 rest refl

pub after_again : (word : List ℕ) (most n : ℕ) (rest : List ℕ) → n ≤ most → most < 2 ^ 64 → EndsNumber rest → number_after word most (word ++ (decimal n ++ rest)) ≡ Some (n, rest)
after_again word most n rest within small end =
    ap (λ b. if b then number_first most (drop (length word) (word ++ (decimal n ++ rest))) else None) (begins word (decimal n ++ rest))
    ∙ ap (number_first most) (drop-append_seam word (decimal n ++ rest)) ∙ first_again most n rest within small end

nothing_ends : EndsNumber []
nothing_ends low = absurd (omega (arith, low))

pub one_again : (word : List ℕ) (most n : ℕ) → n ≤ most → most < 2 ^ 64 → one_number word most (word ++ decimal n) ≡ Some n
one_again word most n within small =
    ap (λ t. one_number word most (word ++ t)) (sym (append-nil (decimal n)))
    ∙ ap (option_and_then alone) (after_again word most n [] within small nothing_ends)

pub two_again : (word other : List ℕ) (most n m : ℕ) → n ≤ most → m ≤ most → most < 2 ^ 64 → EndsNumber (other ++ decimal m)
    → two_numbers word other most (word ++ (decimal n ++ (other ++ decimal m))) ≡ Some (record { first = n; second = m })
two_again word other most n m within fits small end =
    ap (option_and_then (λ x. option_map (λ k. record { first = x.0; second = k }) (one_number other most x.1))) (after_again word most n (other ++ decimal m) within small end)
    ∙ ap (option_map (λ k. record { first = n; second = k })) (one_again other most m fits small)
