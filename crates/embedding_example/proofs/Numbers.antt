-- Sums of lists.
use Rattle.std.proofs.Common.{add-one, ap, arith, ◌≡◌, ℕ, ◌+◌, ◌*◌, ◌/◌, ◌%◌, ◌^◌, ◌<◌, ◌≤◌, suc, zero, refl, sym, ◌∙◌, List, [], ◌∷◌, sum, length}
use Rattle.std.proofs.Math.Nat.{mul-div_cancel_left, mod-add-mod}
use Rattle.std.proofs.lemmas.List.{length-reverse}
use Rattle.std.proofs.lemmas.List.Sums.{sum_by-cons}
use mathlib.Core.List.{reverse, reverse_aux}
use Rattle.embedding_example.specs.Lists.{numbers_down_from}

length-down : (n : ℕ) → length (numbers_down_from n) ≡ n
length-down zero = refl
length-down (suc n) = ap (λ k. suc k) (length-down n)

pub few-down : (n : ℕ) → length (numbers_down_from n) ≤ n
few-down n = omega (arith, length-down n)

pub few-turned : (n : ℕ) → length (reverse (numbers_down_from n)) ≤ n
few-turned n = omega (arith, length-down n, length-reverse (numbers_down_from n))

pub down-more : (n : ℕ) → numbers_down_from (n + 1) ≡ (n + 1) ∷ numbers_down_from n
down-more n = ap numbers_down_from (add-one n) ∙ ap (λ k. k ∷ numbers_down_from n) (sym (add-one n))

twice-sum : (n : ℕ) → 2 * sum (numbers_down_from n) ≡ n * (n + 1)
twice-sum zero = refl
twice-sum (suc n) = omega (arith, twice-sum n, sum_by-cons (λ (x : ℕ). x) (suc n) (numbers_down_from n))

-- 1 to n add up to n (n + 1) / 2
sum-down : (n : ℕ) → sum (numbers_down_from n) ≡ n * (n + 1) / 2
sum-down n =
    let two : 0 < 2 = omega arith in
    sym (mul-div_cancel_left (sum (numbers_down_from n)) two) ∙ ap (λ k. k / 2) (twice-sum n)

sum-onto : (xs ys : List ℕ) → sum (reverse_aux xs ys) ≡ sum xs + sum ys
sum-onto [] ys = omega arith
sum-onto (x ∷ xs) ys =
    sum-onto xs (x ∷ ys) ∙ (let f : ℕ → ℕ = λ k. k in omega (arith, sum_by-cons f x xs, sum_by-cons f x ys))

sum-reverse : (xs : List ℕ) → sum (reverse xs) ≡ sum xs
sum-reverse xs = let onto : sum (reverse_aux xs []) ≡ sum xs + sum [] = sum-onto xs [] in omega arith

-- a number is added to a sum modulo 2^64
pub sum-more : (total done x : ℕ) → total ≡ done % 2 ^ 64 → (total + x) % 2 ^ 64 ≡ (done + x) % 2 ^ 64
sum-more total done x is = ap (λ n. (n + x) % 2 ^ 64) is ∙ mod-add-mod done (2 ^ 64) x

-- the numbers of the reversed list
pub sum-turned : (n : ℕ) → sum (reverse (numbers_down_from n)) ≡ n * (n + 1) / 2
sum-turned n = sum-reverse (numbers_down_from n) ∙ sum-down n
