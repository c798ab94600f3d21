-- Digits many at once: eight in a word, sixteen in a vector.
use Rattle.std.proofs.Common.{◌≡◌, refl, sym, subst, ◌∙◌, ap, ℕ, zero, suc, ◌+◌, ◌-◌, ◌*◌, ◌/◌, ◌%◌, ◌<◌, ◌≤◌, ◌^◌, arith, Bool, true, false, cond, leb, List, [], ◌∷◌, map, length, get_or, take, drop, replicate, add-zero, w8, w64}
use Rattle.std.specs.Prelude.{nat_le}
use Rattle.std.specs.Char.{is_ascii_digit, IsAsciiDigit}
use Rattle.std.specs.Int.{from_le_bytes}
use Rattle.std.specs.List.{list_all}
use Rattle.std.specs.Str.Parse.{digits_value}
use Rattle.std.proofs.lemmas.Bool.{and_parts, leb-true}
use Rattle.std.proofs.lemmas.List.{get_or-take, get_or-drop, length-drop, length-take-le, drop-drop}
use Rattle.std.proofs.lemmas.List.Sums.{AllPass-from_list_all}
use Rattle.std.proofs.lemmas.List.{length-map}
use Rattle.std.proofs.lemmas.Simd.{zip2_splat, zip2_splat_left, tops_compared, map-map, mask_l-mod}
use lib.Lanes.{mask_l, zip2, top}
use Rattle.trace_text.proofs.NumeralLemmas.{digits_more, value_more}

-- bytes that are digits one by one
pub run_digits : (text : List ℕ) (from r : ℕ) → from + r ≤ length text → ((k : ℕ) → from ≤ k → k < from + r → is_ascii_digit (get_or text k 0) ≡ true)
    → list_all is_ascii_digit (take r (drop from text)) ≡ true
run_digits text from zero room each = refl
run_digits text from (suc r) room each =
    let more : suc r ≡ r + 1 = omega arith in
    let front = run_digits text from r (omega arith) (λ k low high. each k low (omega arith)) in
    let here = ap is_ascii_digit (get_or-drop from text r 0) ∙ each (from + r) (omega arith) (omega arith) in
    ap (λ n. list_all is_ascii_digit (take n (drop from text))) more ∙ digits_more (drop from text) r (omega (arith, length-drop from text)) front here

-- whether a byte, less 48 in a byte, is 10 or more
abbrev pub is_other : ℕ → Bool
is_other x = leb 10 ((x + 208) % 256)

-- the mask of a vector's bytes that are no digits
pub mask_of_others : (v : List ℕ) → length v ≡ 16
    → mask_l (map (top 7) (zip2 (λ a b. cond (leb a b) 255 0) (replicate 16 10) (zip2 (λ a b. (a + (256 - b)) % 256) v (replicate 16 48)))) % 2 ^ 64 ≡ mask_l (map is_other v)
mask_of_others v long =
    let less : List ℕ = map (λ a. (a + 208) % 256) v in
    let size : length less ≡ 16 = length-map v (λ a. (a + 208) % 256) ∙ long in
    let few : length (map is_other v) ≤ 64 = omega (arith, length-map v is_other, long) in
    ap (λ l. mask_l (map (top 7) (zip2 (λ a b. cond (leb a b) 255 0) (replicate 16 10) l)) % 2 ^ 64) (zip2_splat (λ a b. (a + (256 - b)) % 256) v 16 48 long)
    ∙ ap (λ l. mask_l l % 2 ^ 64) (tops_compared w8 leb (replicate 16 10) less ∙ zip2_splat_left leb 10 16 less size ∙ map-map (leb 10) (λ a. (a + 208) % 256) v)
    ∙ mask_l-mod (map is_other v) 64 few

-- a byte whose distance from 0, taken in a byte, is below 10
pub is_digit : (x : ℕ) → x < 256 → (x + 208) % 256 < 10 → is_ascii_digit x ≡ true
is_digit x byte near =
    let low : 48 ≤ x = omega arith in
    let high : x ≤ 57 = omega arith in
    grind (arith, low, high)

in_range : (x : ℕ) → is_ascii_digit x ≡ true → IsAsciiDigit x
in_range x is =
    let parts = and_parts (nat_le 48 x) (nat_le x 57) is in
    (leb-true 48 x parts.0, leb-true x 57 parts.1)

-- one of some digits
digit_in : (xs : List ℕ) (n i : ℕ) → n ≤ length xs → i < n → list_all is_ascii_digit (take n xs) ≡ true → IsAsciiDigit (get_or xs i 0)
digit_in xs n i room less digits =
    let long : length (take n xs) ≡ n = length-take-le n xs room in
    let is = AllPass-from_list_all is_ascii_digit (take n xs) digits i 0 (omega (arith, long)) in
    in_range (get_or xs i 0) (ap is_ascii_digit (sym (get_or-take n xs i 0 less)) ∙ is)

step : (xs : List ℕ) (p q : ℕ) → p + 1 ≡ q → p < length xs → IsAsciiDigit (get_or xs p 0) → digits_value 10 (take q xs) + 48 ≡ digits_value 10 (take p xs) * 10 + get_or xs p 0
step xs p q next within digit = ap (λ n. digits_value 10 (take n xs) + 48) (sym next) ∙ value_more xs p within digit

-- the number of eight digits more
more_by_eight : (xs : List ℕ) (k : ℕ) → k + 8 ≤ length xs → ((i : ℕ) → k ≤ i → i < k + 8 → IsAsciiDigit (get_or xs i 0))
    → digits_value 10 (take (k + 8) xs) + 533333328 ≡ digits_value 10 (take k xs) * 100000000 + (10000000 * get_or xs k 0 + 1000000 * get_or xs (k + 1) 0
    + 100000 * get_or xs (k + 2) 0 + 10000 * get_or xs (k + 3) 0 + 1000 * get_or xs (k + 4) 0 + 100 * get_or xs (k + 5) 0 + 10 * get_or xs (k + 6) 0 + get_or xs (k + 7) 0)
more_by_eight xs k room each =
    let a = step xs k (k + 1) refl (omega arith) (each k (omega arith) (omega arith)) in
    let b = step xs (k + 1) (k + 2) (omega arith) (omega arith) (each (k + 1) (omega arith) (omega arith)) in
    let c = step xs (k + 2) (k + 3) (omega arith) (omega arith) (each (k + 2) (omega arith) (omega arith)) in
    let d = step xs (k + 3) (k + 4) (omega arith) (omega arith) (each (k + 3) (omega arith) (omega arith)) in
    let e = step xs (k + 4) (k + 5) (omega arith) (omega arith) (each (k + 4) (omega arith) (omega arith)) in
    let f = step xs (k + 5) (k + 6) (omega arith) (omega arith) (each (k + 5) (omega arith) (omega arith)) in
    let g = step xs (k + 6) (k + 7) (omega arith) (omega arith) (each (k + 6) (omega arith) (omega arith)) in
    let h = step xs (k + 7) (k + 8) (omega arith) (omega arith) (each (k + 7) (omega arith) (omega arith)) in
    omega (arith, a, b, c, d, e, f, g, h)

-- eight digits and eight more
pub twice_eight : (text : List ℕ) (from first last : ℕ) → from + 16 ≤ length text → list_all is_ascii_digit (take 16 (drop from text)) ≡ true
    → first ≡ digits_value 10 (take 8 (drop from text)) → last ≡ digits_value 10 (take 8 (drop (from + 8) text)) → first * 100000000 + last ≡ digits_value 10 (take 16 (drop from text))
twice_eight text from first last room digits one two =
    let xs : List ℕ = drop from text in
    let long : 16 ≤ length xs = omega (arith, length-drop from text) in
    let all : (i : ℕ) → i < 16 → IsAsciiDigit (get_or xs i 0) = λ i less. digit_in xs 16 i long less digits in
    let ys : List ℕ = drop (from + 8) text in
    let short : 8 ≤ length ys = omega (arith, length-drop (from + 8) text) in
    let there : (i j : ℕ) → i + 8 ≡ j → get_or ys i 0 ≡ get_or xs j 0 = λ i j same.
    let place : from + 8 + i ≡ from + j = omega arith in
    get_or-drop (from + 8) text i 0 ∙ ap (λ n. get_or text n 0) place ∙ sym (get_or-drop from text j 0) in
    let whole = more_by_eight xs 8 long (λ i low high. all i high) in
    let part = more_by_eight ys 0 short (λ i low high. subst IsAsciiDigit (sym (there i (i + 8) refl)) (all (i + 8) (omega arith))) in
    omega (arith, whole, part, there 0 8 refl, there 1 9 refl, there 2 10 refl, there 3 11 refl, there 4 12 refl, there 5 13 refl, there 6 14 refl, there 7 15 refl, one, two)

-- part of some digits
pub digits_part : (text : List ℕ) (from n q m : ℕ) → from + n ≤ length text → from ≤ q → q + m ≤ from + n → list_all is_ascii_digit (take n (drop from text)) ≡ true
    → list_all is_ascii_digit (take m (drop q text)) ≡ true
digits_part text from n q m room low high digits =
    run_digits text q m (omega arith) (λ k above below.
    let xs : List ℕ = drop from text in
    let long : length (take n xs) ≡ n = length-take-le n xs (omega (arith, length-drop from text)) in
    let back : from + (k - from) ≡ k = omega arith in
    let is = AllPass-from_list_all is_ascii_digit (take n xs) digits (k - from) 0 (omega (arith, long)) in
    ap is_ascii_digit (sym (get_or-take n xs (k - from) 0 (omega arith) ∙ get_or-drop from text (k - from) 0 ∙ ap (λ j. get_or text j 0) back)) ∙ is)

low_byte : (n x r : ℕ) → x < 256 → n ≡ x + 256 * r → n % 256 ≡ x
low_byte n x r small e = omega arith

two_up : (n x y r : ℕ) → x < 256 → y < 256 → n ≡ x + 256 * (y + 256 * r) → n / 2 ^ 16 ≡ r
two_up n x y r less small e = omega arith

-- every second byte of a word
even_bytes : (n a b c d e f g h : ℕ) → a < 256 → b < 256 → c < 256 → d < 256 → e < 256 → f < 256 → g < 256
    → n ≡ a + 256 * (b + 256 * (c + 256 * (d + 256 * (e + 256 * (f + 256 * (g + 256 * h))))))
    → (n % 256 ≡ a) × (n / 2 ^ 16 % 256 ≡ c) × (n / 2 ^ 32 % 256 ≡ e) × (n / 2 ^ 48 % 256 ≡ g)
even_bytes n a b c d e f g h la lb lc ld le lf lg sum =
    let r6 : ℕ = g + 256 * h in
    let r4 : ℕ = e + 256 * (f + 256 * r6) in
    let r2 : ℕ = c + 256 * (d + 256 * r4) in
    let at2 : n / 2 ^ 16 ≡ r2 = two_up n a b r2 la lb sum in
    let twice : n / 2 ^ 32 ≡ n / 2 ^ 16 / 2 ^ 16 = omega arith in
    let at4 : n / 2 ^ 32 ≡ r4 = twice ∙ ap (λ m. m / 2 ^ 16) at2 ∙ two_up r2 c d r4 lc ld refl in
    let thrice : n / 2 ^ 48 ≡ n / 2 ^ 32 / 2 ^ 16 = omega arith in
    let at6 : n / 2 ^ 48 ≡ r6 = thrice ∙ ap (λ m. m / 2 ^ 16) at4 ∙ two_up r4 e f r6 le lf refl in
    (low_byte n a (b + 256 * r2) la sum, low_byte (n / 2 ^ 16) c (d + 256 * r4) lc at2, low_byte (n / 2 ^ 32) e (f + 256 * r6) le at4, low_byte (n / 2 ^ 48) g h lg at6)

-- eight digits, the first of them in the lowest byte
abbrev pub in_bytes : ℕ → ℕ → ℕ → ℕ → ℕ → ℕ → ℕ → ℕ → ℕ
in_bytes a b c d e f g h = a + 256 * (b + 256 * (c + 256 * (d + 256 * (e + 256 * (f + 256 * (g + 256 * h))))))

next_bytes : (n a r : ℕ) → a < 256 → n ≡ a + 256 * r → n / 256 ≡ r
next_bytes n a r less e = omega arith

-- the number of eight digits, by pairs
by_pairs : (n a b c d e f g h : ℕ) → a ≤ 9 → b ≤ 9 → c ≤ 9 → d ≤ 9 → e ≤ 9 → f ≤ 9 → g ≤ 9 → h ≤ 9 → n ≡ in_bytes a b c d e f g h
    → ((n * 10 + n / 256) % 256 * 100 + (n * 10 + n / 256) / 2 ^ 16 % 256) * 10000 + ((n * 10 + n / 256) / 2 ^ 32 % 256 * 100 + (n * 10 + n / 256) / 2 ^ 48 % 256)
    ≡ 10000000 * a + 1000000 * b + 100000 * c + 10000 * d + 1000 * e + 100 * f + 10 * g + h
by_pairs n a b c d e f g h la lb lc ld le lf lg lh sum =
    let next = next_bytes n a (b + 256 * (c + 256 * (d + 256 * (e + 256 * (f + 256 * (g + 256 * h)))))) (omega arith) sum in
    let pairs : n * 10 + n / 256 ≡ in_bytes (10 * a + b) (10 * b + c) (10 * c + d) (10 * d + e) (10 * e + f) (10 * f + g) (10 * g + h) (10 * h) = omega (arith, next, sum) in
    let bytes = even_bytes (n * 10 + n / 256) (10 * a + b) (10 * b + c) (10 * c + d) (10 * d + e) (10 * e + f) (10 * f + g) (10 * g + h) (10 * h)
    (omega arith) (omega arith) (omega arith) (omega arith) (omega arith) (omega arith) (omega arith) pairs in
    omega (arith, bytes.0, bytes.1, bytes.2, bytes.3)

digit_less : (x : ℕ) → IsAsciiDigit x → (x - 48 ≤ 9) × (x ≡ x - 48 + 48)
digit_less x is = (omega (arith, is.0, is.1), omega (arith, is.0, is.1))

-- the word of eight digits, less eight bytes `0`, and their number
pub eight_digits_are : (text : List ℕ) (from word : ℕ) → from + 8 ≤ length text → list_all is_ascii_digit (take 8 (drop from text)) ≡ true
    → word ≡ from_le_bytes w64 (get_or text from 0 ∷ get_or text (from + 1) 0 ∷ get_or text (from + 2) 0 ∷ get_or text (from + 3) 0 ∷ get_or text (from + 4) 0
    ∷ get_or text (from + 5) 0 ∷ get_or text (from + 6) 0 ∷ get_or text (from + 7) 0 ∷ [])
    → (n : ℕ) × (word ≡ 3472328296227680304 + n) × (n ≤ 651061555542690057)
    × (((n * 10 + n / 256) % 256 * 100 + (n * 10 + n / 256) / 2 ^ 16 % 256) * 10000 + ((n * 10 + n / 256) / 2 ^ 32 % 256 * 100 + (n * 10 + n / 256) / 2 ^ 48 % 256)
    ≡ digits_value 10 (take 8 (drop from text)))
eight_digits_are text from word room digits is =
    let xs : List ℕ = drop from text in
    let long : 8 ≤ length xs = omega (arith, length-drop from text) in
    let there : (i : ℕ) → get_or xs i 0 ≡ get_or text (from + i) 0 = λ i. get_or-drop from text i 0 in
    let start : get_or xs 0 0 ≡ get_or text from 0 = there 0 ∙ ap (λ n. get_or text n 0) (add-zero from) in
    let each : (i : ℕ) → i < 8 → IsAsciiDigit (get_or xs i 0) = λ i less. digit_in xs 8 i long less digits in
    let a = digit_less (get_or xs 0 0) (each 0 (omega arith)) in
    let b = digit_less (get_or xs 1 0) (each 1 (omega arith)) in
    let c = digit_less (get_or xs 2 0) (each 2 (omega arith)) in
    let d = digit_less (get_or xs 3 0) (each 3 (omega arith)) in
    let e = digit_less (get_or xs 4 0) (each 4 (omega arith)) in
    let f = digit_less (get_or xs 5 0) (each 5 (omega arith)) in
    let g = digit_less (get_or xs 6 0) (each 6 (omega arith)) in
    let h = digit_less (get_or xs 7 0) (each 7 (omega arith)) in
    let n : ℕ = in_bytes (get_or xs 0 0 - 48) (get_or xs 1 0 - 48) (get_or xs 2 0 - 48) (get_or xs 3 0 - 48) (get_or xs 4 0 - 48) (get_or xs 5 0 - 48) (get_or xs 6 0 - 48) (get_or xs 7 0 - 48) in
    let bytes : word ≡ get_or text from 0 + get_or text (from + 1) 0 * 256 ^ 1 + get_or text (from + 2) 0 * 256 ^ 2 + get_or text (from + 3) 0 * 256 ^ 3
    + get_or text (from + 4) 0 * 256 ^ 4 + get_or text (from + 5) 0 * 256 ^ 5 + get_or text (from + 6) 0 * 256 ^ 6 + get_or text (from + 7) 0 * 256 ^ 7 = is in
    let whole : word ≡ 3472328296227680304 + n = omega (arith, bytes, start, there 1, there 2, there 3, there 4, there 5, there 6, there 7, a.1, b.1, c.1, d.1, e.1, f.1, g.1, h.1) in
    let value = more_by_eight xs 0 long (λ i low high. each i high) in
    let most : n ≤ 651061555542690057 = omega (arith, a.0, b.0, c.0, d.0, e.0, f.0, g.0, h.0) in
    let pairs = by_pairs n (get_or xs 0 0 - 48) (get_or xs 1 0 - 48) (get_or xs 2 0 - 48) (get_or xs 3 0 - 48) (get_or xs 4 0 - 48) (get_or xs 5 0 - 48) (get_or xs 6 0 - 48) (get_or xs 7 0 - 48)
    a.0 b.0 c.0 d.0 e.0 f.0 g.0 h.0 refl in
    (n, whole, most, pairs ∙ omega (arith, value, a.1, b.1, c.1, d.1, e.1, f.1, g.1, h.1))

pub eight_digits_bound : (text : List ℕ) (from : ℕ) → from + 8 ≤ length text → list_all is_ascii_digit (take 8 (drop from text)) ≡ true → digits_value 10 (take 8 (drop from text)) < 100000000
eight_digits_bound text from room digits =
    let xs : List ℕ = drop from text in
    let long : 8 ≤ length xs = omega (arith, length-drop from text) in
    let each : (i : ℕ) → i < 8 → IsAsciiDigit (get_or xs i 0) = λ i less. digit_in xs 8 i long less digits in
    let value = more_by_eight xs 0 long (λ i low high. each i high) in
    omega (arith, value, (each 0 (omega arith)).1, (each 1 (omega arith)).1, (each 2 (omega arith)).1, (each 3 (omega arith)).1, (each 4 (omega arith)).1, (each 5 (omega arith)).1, (each 6 (omega arith)).1, (each 7 (omega arith)).1)
