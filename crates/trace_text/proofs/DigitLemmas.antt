-- The number of a numeral's digits, and the digits two and four at a time.
use Rattle.std.proofs.Common.{◌≡◌, refl, sym, ◌∙◌, ap, ℕ, zero, suc, ◌+◌, ◌*◌, ◌/◌, ◌%◌, ◌<◌, ◌≤◌, ◌^◌, List, [], ◌∷◌, ◌++◌, length, get_or, append_assoc, arith}
use Rattle.std.specs.Fmt.{decimal}
use Rattle.std.proofs.lemmas.Fmt.{length-decimal-le, decimal_digit, decimal_step}
use Rattle.trace_text.specs.declared.digits.TheConstants.{PAIRS}

pub digit_count : (n : ℕ) → n < 2 ^ 64 → length (decimal n) ≤ 20
digit_count n small = length-decimal-le 20 n (omega arith) (omega arith) small

pub one_digit : (n : ℕ) → n < 10 → decimal n ≡ (48 + n) ∷ []
one_digit n small = decimal_digit n small

pub two_digits : (n : ℕ) → 10 ≤ n → n < 100 → decimal n ≡ (48 + n / 10) ∷ (48 + n % 10) ∷ []
two_digits n large small =
    decimal_step n large (omega arith) ∙ ap (λ front. front ++ (48 + n % 10) ∷ []) (decimal_digit (n / 10) (omega arith))

pub more_digits : (n : ℕ) → 100 ≤ n → n < 2 ^ 64 → decimal n ≡ decimal (n / 100) ++ (48 + n % 100 / 10) ∷ (48 + n % 100 % 10) ∷ []
more_digits n large small =
    let last : n % 10 ≡ n % 100 % 10 = omega arith in
    let before : n / 10 % 10 ≡ n % 100 / 10 = omega arith in
    let front : n / 10 / 10 ≡ n / 100 = omega arith in
    decimal_step n (omega arith) small
    ∙ ap (λ x. x ++ (48 + n % 10) ∷ []) (decimal_step (n / 10) (omega arith) (omega arith))
    ∙ append_assoc (decimal (n / 10 / 10)) ((48 + n / 10 % 10) ∷ []) ((48 + n % 10) ∷ [])
    ∙ rw (front, before, last) refl

-- the two digits of each of `count` numbers, from n on
pairs-from : ℕ → ℕ → List ℕ
pairs-from n zero = []
pairs-from n (suc count) = (48 + n / 10) ∷ (48 + n % 10) ∷ pairs-from (suc n) count

pairs-are-digits : PAIRS.now ≡ pairs-from 0 100
unfolding pairs-from
pairs-are-digits = refl

first-at : (n count i : ℕ) → i < count → get_or (pairs-from n count) (2 * i) 0 ≡ 48 + (n + i) / 10
unfolding pairs-from
first-at n zero i within = absurd (omega (arith, within))
first-at n (suc count) zero within = let sum : n ≡ n + 0 = omega arith in ap (λ m. 48 + m / 10) sum
first-at n (suc count) (suc i) within =
    let place : 2 * suc i ≡ suc (suc (2 * i)) = omega arith in
    let sum : suc n + i ≡ n + suc i = omega arith in
    ap (λ p. get_or (pairs-from n (suc count)) p 0) place ∙ first-at (suc n) count i (omega (arith, within)) ∙ ap (λ m. 48 + m / 10) sum

second-at : (n count i : ℕ) → i < count → get_or (pairs-from n count) (2 * i + 1) 0 ≡ 48 + (n + i) % 10
unfolding pairs-from
second-at n zero i within = absurd (omega (arith, within))
second-at n (suc count) zero within = let sum : n ≡ n + 0 = omega arith in ap (λ m. 48 + m % 10) sum
second-at n (suc count) (suc i) within =
    let place : 2 * suc i + 1 ≡ suc (suc (2 * i + 1)) = omega arith in
    let sum : suc n + i ≡ n + suc i = omega arith in
    ap (λ p. get_or (pairs-from n (suc count)) p 0) place ∙ second-at (suc n) count i (omega (arith, within)) ∙ ap (λ m. 48 + m % 10) sum

pub pair_is_digits : (n : ℕ) → n < 100 → get_or PAIRS.now (2 * n) 0 ∷ get_or PAIRS.now (2 * n + 1) 0 ∷ [] ≡ (48 + n / 10) ∷ (48 + n % 10) ∷ []
pair_is_digits n small =
    let digits : List ℕ = pairs-from 0 100 in
    let same : 0 + n ≡ n = omega arith in
    let first : get_or digits (2 * n) 0 ≡ 48 + n / 10 = first-at 0 100 n small ∙ ap (λ m. 48 + m / 10) same in
    let second : get_or digits (2 * n + 1) 0 ≡ 48 + n % 10 = second-at 0 100 n small ∙ ap (λ m. 48 + m % 10) same in
    ap (λ table. get_or table (2 * n) 0 ∷ get_or table (2 * n + 1) 0 ∷ []) pairs-are-digits
    ∙ ap (λ digit. digit ∷ get_or digits (2 * n + 1) 0 ∷ []) first
    ∙ ap (λ digit. (48 + n / 10) ∷ digit ∷ []) second

-- a numeral is its first digits followed by its last two
pub pair_more : (old front new : List ℕ) (n : ℕ) → 100 ≤ n → n < 2 ^ 64 → front ≡ old ++ decimal (n / 100) → new ≡ front ++ (48 + n % 100 / 10) ∷ (48 + n % 100 % 10) ∷ [] → new ≡ old ++ decimal n
pair_more old front new n large small before appended =
    let pair = (48 + n % 100 / 10) ∷ (48 + n % 100 % 10) ∷ [] in
    appended ∙ ap (λ xs. xs ++ pair) before ∙ append_assoc old (decimal (n / 100)) pair ∙ ap (λ digits. old ++ digits) (sym (more_digits n large small))

-- and by its last four
pub four_more : (front old mid new : List ℕ) (n : ℕ) → 1000000 ≤ n → n < 2 ^ 64 → old ≡ front ++ decimal (n / 10000)
    → mid ≡ old ++ (48 + n / 100 % 100 / 10) ∷ (48 + n / 100 % 100 % 10) ∷ [] → new ≡ mid ++ (48 + n % 100 / 10) ∷ (48 + n % 100 % 10) ∷ []
    → new ≡ front ++ decimal n
four_more front old mid new n large small before first second =
    let same : n / 10000 ≡ n / 100 / 100 = omega arith in
    pair_more front mid new n (omega arith) small
    (pair_more front old mid (n / 100) (omega arith) (omega arith) (before ∙ ap (λ m. front ++ decimal m) same) first) second

pub ruleset numerals_by_digits = (one_digit, two_digits)
