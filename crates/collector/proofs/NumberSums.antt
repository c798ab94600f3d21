-- Sums over numbers in a row: parts of them, sums of sums, and counts as sums.
use Rattle.std.proofs.Common.{◌≡◌, ◌≢◌, refl, sym, ◌∙◌, ap, ℕ, ◌+◌, ◌<◌, ◌≤◌, inl, inr, arith, Bool, true, false, nat_eq, zero, suc, List, [], ◌∷◌, length}
use Rattle.std.proofs.lemmas.Bool.{cases_eq, eqb-true}
use Rattle.object_model.specs.Times.{one_if, times}
use Rattle.trace_core.proofs.CountedRights.{times-cons}
use Rattle.collector.proofs.TallySums.{sum_over, sum-first, sum-same, sum-both, sum-none}

pub one-most : (b : Bool) → one_if b ≤ 1
one-most true = omega arith
one-most false = omega arith

pub one-true : (b : Bool) → 0 < one_if b → b ≡ true
one-true true some = refl
one-true false some = absurd (omega (arith, some))

pub sum-parts : (f : ℕ → ℕ) (a m n : ℕ) → sum_over f a (m + n) ≡ sum_over f a m + sum_over f (a + m) n
sum-parts f a zero n =
    let all : sum_over f a (0 + n) ≡ sum_over f a n = ap (sum_over f a) (let e : 0 + n ≡ n = omega arith in e) in
    let rest : sum_over f (a + 0) n ≡ sum_over f a n = ap (λ k. sum_over f k n) (let e : a + 0 ≡ a = omega arith in e) in
    let none : sum_over f a 0 ≡ 0 = refl in
    omega arith
sum-parts f a (suc m) n =
    let all : sum_over f a (suc m + n) ≡ f a + sum_over f (a + 1) (m + n) = ap (sum_over f a) (let e : suc m + n ≡ suc (m + n) = omega arith in e) ∙ sum-first f a (m + n) in
    let left : sum_over f a (suc m) ≡ f a + sum_over f (a + 1) m = sum-first f a m in
    let rest : sum_over f (a + 1) (m + n) ≡ sum_over f (a + 1) m + sum_over f (a + 1 + m) n = sum-parts f (a + 1) m n in
    let at : a + 1 + m ≡ a + suc m = omega arith in
    let same : sum_over f (a + 1 + m) n ≡ sum_over f (a + suc m) n = ap (λ k. sum_over f k n) at in
    omega arith

pub sum-most : (f g : ℕ → ℕ) (a n : ℕ) → ((i : ℕ) → a ≤ i → i < a + n → f i ≤ g i) → sum_over f a n ≤ sum_over g a n
sum-most f g a zero most = omega arith
sum-most f g a (suc n) most =
    let left : sum_over f a (suc n) ≡ f a + sum_over f (a + 1) n = sum-first f a n in
    let right : sum_over g a (suc n) ≡ g a + sum_over g (a + 1) n = sum-first g a n in
    let here : f a ≤ g a = most a (omega arith) (omega arith) in
    let rest : sum_over f (a + 1) n ≤ sum_over g (a + 1) n = sum-most f g (a + 1) n (λ i from below. most i (omega arith) (omega arith)) in
    omega arith

-- one each
pub sum-ones : (f : ℕ → ℕ) (a n : ℕ) → ((i : ℕ) → a ≤ i → i < a + n → 1 ≤ f i) → n ≤ sum_over f a n
sum-ones f a zero each = omega arith
sum-ones f a (suc n) each =
    let all : sum_over f a (suc n) ≡ f a + sum_over f (a + 1) n = sum-first f a n in
    let here : 1 ≤ f a = each a (omega arith) (omega arith) in
    let rest : n ≤ sum_over f (a + 1) n = sum-ones f (a + 1) n (λ i from below. each i (omega arith) (omega arith)) in
    omega arith

-- at most one each, and only from t on and before e
pub sum-within : (f : ℕ → ℕ) (t e a n : ℕ) → t ≤ e → ((i : ℕ) → f i ≤ 1) → ((i : ℕ) → a ≤ i → 0 < f i → (t ≤ i) × (i < e)) → sum_over f a n + t ≤ e
sum-within f t e a zero order one part = omega arith
sum-within f t e a (suc n) order one part =
    let all : sum_over f a (suc n) ≡ f a + sum_over f (a + 1) n = sum-first f a n in
    let most : f a ≤ 1 = one a in
    elim (cases_eq (f a) 0) as (λ _. sum_over f a (suc n) + t ≤ e) [
      | inl none ↦ (let rest : sum_over f (a + 1) n + t ≤ e = sum-within f t e (a + 1) n order one (λ i from some. part i (omega arith) some) in omega arith)
      | inr some ↦ (let here : (t ≤ a) × (a < e) = part a (omega arith) (let other : f a ≢ 0 = some in omega arith) in
          let from : t ≤ a = here.0 in
          let below : a < e = here.1 in
          let rest : sum_over f (a + 1) n + (a + 1) ≤ e = sum-within f (a + 1) e (a + 1) n (omega arith) one (λ i after some. (after, (part i (omega arith) some).1)) in
          omega arith)
    ]

-- a sum of sums, the other way round
pub sum-swap : (f : ℕ → ℕ → ℕ) (a n b k : ℕ) → sum_over (λ i. sum_over (f i) b k) a n ≡ sum_over (λ j. sum_over (λ i. f i j) a n) b k
sum-swap f a zero b k = sym (sum-none (λ j. sum_over (λ i. f i j) a zero) b k (λ j _ _. refl))
sum-swap f a (suc n) b k =
    let all : sum_over (λ i. sum_over (f i) b k) a (suc n) ≡ sum_over (f a) b k + sum_over (λ i. sum_over (f i) b k) (a + 1) n = sum-first (λ i. sum_over (f i) b k) a n in
    let rest : sum_over (λ i. sum_over (f i) b k) (a + 1) n ≡ sum_over (λ j. sum_over (λ i. f i j) (a + 1) n) b k = sum-swap f (a + 1) n b k in
    let both : sum_over (λ j. f a j + sum_over (λ i. f i j) (a + 1) n) b k ≡ sum_over (f a) b k + sum_over (λ j. sum_over (λ i. f i j) (a + 1) n) b k
    = sum-both (f a) (λ j. sum_over (λ i. f i j) (a + 1) n) b k in
    let same : sum_over (λ j. sum_over (λ i. f i j) a (suc n)) b k ≡ sum_over (λ j. f a j + sum_over (λ i. f i j) (a + 1) n) b k
    = sum-same (λ j. sum_over (λ i. f i j) a (suc n)) (λ j. f a j + sum_over (λ i. f i j) (a + 1) n) b k (λ j _ _. sum-first (λ i. f i j) a n) in
    omega arith

-- numbers in a row are in a list no more often than it is long
pub sum-times : (l : List ℕ) (a n : ℕ) → sum_over (λ i. times i l) a n ≤ length l
sum-times [] a n = let none : sum_over (λ i. times i []) a n ≡ 0 = sum-none (λ i. times i []) a n (λ i _ _. refl) in omega arith
sum-times (e ∷ l) a n =
    let here : sum_over (λ i. one_if (nat_eq i e)) a n + e ≤ e + 1 = sum-within (λ i. one_if (nat_eq i e)) e (e + 1) a n (omega arith) (λ i. one-most (nat_eq i e))
    (λ i _ some. let same : i ≡ e = eqb-true i e (one-true (nat_eq i e) some) in (omega arith, omega arith)) in
    let rest : sum_over (λ i. times i l) a n ≤ length l = sum-times l a n in
    let both : sum_over (λ i. one_if (nat_eq i e) + times i l) a n ≡ sum_over (λ i. one_if (nat_eq i e)) a n + sum_over (λ i. times i l) a n
    = sum-both (λ i. one_if (nat_eq i e)) (λ i. times i l) a n in
    let same : sum_over (λ i. times i (e ∷ l)) a n ≡ sum_over (λ i. one_if (nat_eq i e) + times i l) a n
    = sum-same (λ i. times i (e ∷ l)) (λ i. one_if (nat_eq i e) + times i l) a n (λ i _ _. times-cons e l i) in
    omega arith
