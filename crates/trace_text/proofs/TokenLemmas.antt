-- What a text begins with.
use Rattle.std.proofs.Common.{◌≡◌, sym, subst, ◌∙◌, ap, ℕ, ◌+◌, ◌*◌, ◌<◌, ◌≤◌, ◌^◌, arith, true, List, ◌++◌, length, get_or, take, drop, Some, length-take, add-zero}
use Rattle.std.specs.Char.{is_ascii_digit, IsAsciiDigit}
use Rattle.std.specs.List.{list_all}
use Rattle.std.specs.Str.Parse.{digits_value}
use Rattle.std.specs.Fmt.{decimal}
use Rattle.std.proofs.lemmas.List.{take-append-drop, get_or-take, get_or-drop, length-drop, drop-drop}
use Rattle.trace_text.proofs.NumeralLemmas.{good_numeral, digits_more, value_more}
use Rattle.trace_text.proofs.Spelled.{decimal-numeral}

-- digits that do not begin with 0, or the single digit 0, are the numeral of their number
pub first_number : (text : List ℕ) (k value : ℕ) → k ≤ length text → 0 < k → (get_or text 0 0 ≡ 48 → 1 < k → ⊥)
    → list_all is_ascii_digit (take k text) ≡ true → value ≡ digits_value 10 (take k text) → value < 2 ^ 64 → text ≡ decimal value ++ drop k text
first_number text k value within some led digits exact small =
    let long : length (take k text) ≡ k = grind (arith, length-take {A = ℕ}) in
    let first : get_or (take k text) 0 0 ≡ get_or text 0 0 = get_or-take k text 0 0 some in
    let read = good_numeral (take k text) digits (omega arith) (λ zero more. led (sym first ∙ zero) (omega arith)) in
    let spelled = decimal-numeral (take k text) value (read ∙ ap Some (sym exact)) small in
    sym (take-append-drop k text) ∙ ap (λ front. front ++ drop k text) spelled

-- one more digit
pub digit_more : (text : List ℕ) (from k value digit : ℕ) → from + k < length text → is_ascii_digit (get_or text (from + k) 0) ≡ true → IsAsciiDigit (get_or text (from + k) 0) → digit + 48 ≡ get_or text (from + k) 0
    → list_all is_ascii_digit (take k (drop from text)) ≡ true → value ≡ digits_value 10 (take k (drop from text))
    → (list_all is_ascii_digit (take (k + 1) (drop from text)) ≡ true) × (value * 10 + digit ≡ digits_value 10 (take (k + 1) (drop from text)))
digit_more text from k value digit within is digit_is same digits exact =
    let there : get_or (drop from text) k 0 ≡ get_or text (from + k) 0 = get_or-drop from text k 0 in
    let inside : k < length (drop from text) = omega (arith, length-drop from text) in
    let more = value_more (drop from text) k inside (subst IsAsciiDigit (sym there) digit_is) in
    (digits_more (drop from text) k inside digits (ap is_ascii_digit there ∙ is), omega arith)

pub number_at : (text : List ℕ) (from k value : ℕ) → from + k ≤ length text → 0 < k → (get_or text from 0 ≡ 48 → 1 < k → ⊥)
    → list_all is_ascii_digit (take k (drop from text)) ≡ true → value ≡ digits_value 10 (take k (drop from text)) → value < 2 ^ 64
    → drop from text ≡ decimal value ++ drop (from + k) text
number_at text from k value within some led digits exact small =
    first_number (drop from text) k value (omega (arith, length-drop from text)) some
    (λ zero more. led (sym (get_or-drop from text 0 0 ∙ ap (λ n. get_or text n 0) (add-zero from)) ∙ zero) more) digits exact small
    ∙ ap (λ rest. decimal value ++ rest) (drop-drop k from text)
