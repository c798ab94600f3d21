-- Counts over ranges of numbers, and of the bits of a word.
use Rattle.std.proofs.Common.{◌≡◌, refl, sym, ap, ◌∙◌, ℕ, zero, suc, ◌+◌, ◌/◌, ◌%◌, ◌^◌, ◌<◌, arith, Bool, true, false, cond, nat_eq, List, ◌∷◌}
use Rattle.side_meta.specs.BitWords.{has_bit}
use Rattle.std.specs.Prelude.{count_by, count_ones}
use Rattle.std.specs.List.{range_with_len}
use Rattle.std.specs.Int.{bit_at}
use Rattle.std.specs.Int.Count.{ones_step}
use Rattle.std.proofs.Math.Nat.{pow-suc}
use Rattle.std.proofs.lemmas.List.Sums.{sum_by-cons}
use Rattle.std.proofs.lemmas.Nat.{ones_le_self}
use Rattle.std.proofs.lemmas.Nat.Bits.{bit_at-lt, bit_at_lowest, bit_at-suc}

abbrev pub one_if : Bool → ℕ
one_if b = cond b 1 0

count-cons : (p : ℕ → Bool) (x : ℕ) (xs : List ℕ) → count_by p (x ∷ xs) ≡ one_if (p x) + count_by p xs
count-cons p x xs = sum_by-cons (λ y. one_if (p y)) x xs

-- tests that agree count alike
pub count-same : (p q : ℕ → Bool) (a b n : ℕ) → ((i : ℕ) → i < n → p (a + i) ≡ q (b + i)) → count_by p (range_with_len a n) ≡ count_by q (range_with_len b n)
count-same p q a b zero same = refl
count-same p q a b (suc n) same =
    let left : count_by p (range_with_len a (suc n)) ≡ one_if (p a) + count_by p (range_with_len (a + 1) n) = count-cons p a (range_with_len (a + 1) n) in
    let right : count_by q (range_with_len b (suc n)) ≡ one_if (q b) + count_by q (range_with_len (b + 1) n) = count-cons q b (range_with_len (b + 1) n) in
    let begin : a + 0 ≡ a = omega arith in
    let start : b + 0 ≡ b = omega arith in
    let here : one_if (p a) ≡ one_if (q b) = ap (λ x. one_if (p x)) (sym begin) ∙ ap one_if (same 0 (omega arith)) ∙ ap (λ x. one_if (q x)) start in
    let rest : count_by p (range_with_len (a + 1) n) ≡ count_by q (range_with_len (b + 1) n) = count-same p q (a + 1) (b + 1) n (λ i below.
    let e : a + 1 + i ≡ a + suc i = omega arith in let f : b + 1 + i ≡ b + suc i = omega arith in
    ap p e ∙ same (suc i) (omega arith) ∙ sym (ap q f)) in
    omega arith

-- a range in two parts
pub count-parts : (p : ℕ → Bool) (a m n : ℕ) → count_by p (range_with_len a (m + n)) ≡ count_by p (range_with_len a m) + count_by p (range_with_len (a + m) n)
count-parts p a zero n =
    let whole : count_by p (range_with_len a (zero + n)) ≡ count_by p (range_with_len a n) = ap (λ k. count_by p (range_with_len a k)) (let e : zero + n ≡ n = omega arith in e) in
    let second : count_by p (range_with_len (a + zero) n) ≡ count_by p (range_with_len a n) = ap (λ k. count_by p (range_with_len k n)) (let e : a + zero ≡ a = omega arith in e) in
    let none : count_by p (range_with_len a zero) ≡ 0 = refl in
    omega arith
count-parts p a (suc m) n =
    let whole : count_by p (range_with_len a (suc m + n)) ≡ count_by p (range_with_len a (suc (m + n))) = ap (λ k. count_by p (range_with_len a k)) (let e : suc m + n ≡ suc (m + n) = omega arith in e) in
    let long : count_by p (range_with_len a (suc (m + n))) ≡ one_if (p a) + count_by p (range_with_len (a + 1) (m + n)) = count-cons p a (range_with_len (a + 1) (m + n)) in
    let short : count_by p (range_with_len a (suc m)) ≡ one_if (p a) + count_by p (range_with_len (a + 1) m) = count-cons p a (range_with_len (a + 1) m) in
    let rest : count_by p (range_with_len (a + 1) (m + n)) ≡ count_by p (range_with_len (a + 1) m) + count_by p (range_with_len (a + 1 + m) n) = count-parts p (a + 1) m n in
    let second : count_by p (range_with_len (a + 1 + m) n) ≡ count_by p (range_with_len (a + suc m) n) = ap (λ k. count_by p (range_with_len k n)) (let e : a + 1 + m ≡ a + suc m = omega arith in e) in
    omega arith

one-of-bit : (v : ℕ) → v < 2 → one_if (nat_eq v 1) ≡ v
one-of-bit zero low = refl
one-of-bit (suc zero) low = refl
one-of-bit (suc (suc v)) low = absurd (omega arith)

-- the set bits of a word of k bits
pub ones-count : (k n : ℕ) → n < 2 ^ k → count_ones n ≡ count_by (has_bit n) (range_with_len 0 k)
ones-count zero n low = (let none : n ≡ 0 = omega arith in let least = ones_le_self n in omega arith)
ones-count (suc k) n low =
    let twice = pow-suc 2 k in
    let half : n / 2 < 2 ^ k = omega arith in
    let split : count_ones n ≡ n % 2 + count_ones (n / 2) = ones_step n in
    let rest : count_ones (n / 2) ≡ count_by (has_bit (n / 2)) (range_with_len 0 k) = ones-count k (n / 2) half in
    let moved : count_by (has_bit (n / 2)) (range_with_len 0 k) ≡ count_by (has_bit n) (range_with_len (0 + 1) k) = count-same (has_bit (n / 2)) (has_bit n) 0 (0 + 1) k (λ i below.
    ap (λ v. nat_eq v 1) (ap (bit_at (n / 2)) (let e : 0 + i ≡ i = omega arith in e) ∙ sym (bit_at-suc n i) ∙ ap (bit_at n) (let e : suc i ≡ 0 + 1 + i = omega arith in e))) in
    let all : count_by (has_bit n) (range_with_len 0 (suc k)) ≡ one_if (has_bit n 0) + count_by (has_bit n) (range_with_len (0 + 1) k) = count-cons (has_bit n) 0 (range_with_len (0 + 1) k) in
    let lowest : one_if (has_bit n 0) ≡ n % 2 = one-of-bit (bit_at n 0) (bit_at-lt n 0) ∙ bit_at_lowest n in
    omega arith

-- a count of 0, and the numbers that pass
pub none-passes : (p : ℕ → Bool) (a n i : ℕ) → count_by p (range_with_len a n) ≡ 0 → i < n → p (a + i) ≡ true → ⊥
none-passes p a zero i none below set = omega arith
none-passes p a (suc n) zero none below set =
    let whole : count_by p (range_with_len a (suc n)) ≡ one_if (p a) + count_by p (range_with_len (a + 1) n) = count-cons p a (range_with_len (a + 1) n) in
    let here : one_if (p a) ≡ 1 = ap (λ x. one_if (p x)) (let e : a ≡ a + zero = omega arith in e) ∙ ap one_if set in
    omega arith
none-passes p a (suc n) (suc i) none below set =
    let whole : count_by p (range_with_len a (suc n)) ≡ one_if (p a) + count_by p (range_with_len (a + 1) n) = count-cons p a (range_with_len (a + 1) n) in
    none-passes p (a + 1) n i (omega arith) (omega arith) (ap p (let e : a + 1 + i ≡ a + suc i = omega arith in e) ∙ set)

pub none-counted : (p : ℕ → Bool) (a n : ℕ) → ((i : ℕ) → i < n → p (a + i) ≡ false) → count_by p (range_with_len a n) ≡ 0
none-counted p a zero none = refl
none-counted p a (suc n) none =
    let whole : count_by p (range_with_len a (suc n)) ≡ one_if (p a) + count_by p (range_with_len (a + 1) n) = count-cons p a (range_with_len (a + 1) n) in
    let here : one_if (p a) ≡ 0 = ap (λ x. one_if (p x)) (let e : a ≡ a + 0 = omega arith in e) ∙ ap one_if (none 0 (omega arith)) in
    let rest : count_by p (range_with_len (a + 1) n) ≡ 0 = none-counted p (a + 1) n (λ i below. ap p (let e : a + 1 + i ≡ a + suc i = omega arith in e) ∙ none (suc i) (omega arith)) in
    omega arith
