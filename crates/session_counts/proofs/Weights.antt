-- Sums over addresses and over lists of them.
use Rattle.std.proofs.Common.{◌≡◌, refl, sym, ◌∙◌, ap, subst, ℕ, zero, suc, ◌+◌, ◌-◌, ◌<◌, ◌≤◌, arith, inl, inr, Bool, true, false, ◌&&◌, nat_eq, nat_le, nat_lt, List, [], ◌∷◌}
use Rattle.std.specs.Prelude.{◌⊎◌, if◌then◌else◌}
use Rattle.std.specs.List.{AllByRecursion, list_any, sum_by}
use Rattle.std.proofs.lemmas.Bool.{and_from, and_parts, cases_Bool, cases_eq, eq-eqb, le-leb, leb-true, lt-ltb, ltb-true, ne_eqb, or_left, or_right, true≢false}
use Rattle.std.proofs.lemmas.List.Sums.{sum_by-cons}
use Rattle.object_model.specs.Times.{one_if}
use Rattle.object_model.proofs.HeldCounts.{below, below-more, below-none}
use Rattle.session_counts.specs.HeapCounts.{Distinct}

-- the weight of address a in a list
abbrev pub weight : (ℕ → ℕ) → ℕ → ℕ → ℕ
weight w x a = if nat_eq a x then w a else 0

abbrev pub weight_in : (ℕ → ℕ) → List ℕ → ℕ → ℕ
weight_in w [] a = 0
weight_in w (x ∷ xs) a = weight w x a + weight_in w xs a

abbrev pub weigh_list : (ℕ → ℕ) → List ℕ → ℕ
weigh_list w [] = 0
weigh_list w (x ∷ xs) = w x + weigh_list w xs

pub below-sum : (f g : ℕ → ℕ) (n : ℕ) → below (λ a. f a + g a) n ≡ below f n + below g n
below-sum f g zero = refl
below-sum f g (suc n) =
    let one : n + 1 ≡ suc n = omega arith in
    let all : below (λ a. f a + g a) (suc n) ≡ below (λ a. f a + g a) n + (f n + g n) = ap (below (λ a. f a + g a)) (sym one) ∙ below-more (λ a. f a + g a) n in
    let here : below f (suc n) ≡ below f n + f n = ap (below f) (sym one) ∙ below-more f n in
    let there : below g (suc n) ≡ below g n + g n = ap (below g) (sym one) ∙ below-more g n in
    let rest : below (λ a. f a + g a) n ≡ below f n + below g n = below-sum f g n in
    omega (arith, all, here, there, rest)

pub weight-off : (w : ℕ → ℕ) (x a : ℕ) → (a ≡ x → ⊥) → weight w x a ≡ 0
weight-off w x a differ = ap (λ (b : Bool). if b then w a else 0) (ne_eqb a x differ)

pub weight-on : (w : ℕ → ℕ) (x a : ℕ) → a ≡ x → weight w x a ≡ w a
weight-on w x a same = ap (λ (b : Bool). if b then w a else 0) (eq-eqb a x same)

pub one-weight : (w : ℕ → ℕ) (x n : ℕ) → x < n → below (weight w x) n ≡ w x
one-weight w x zero low = absurd (omega (arith, low))
one-weight w x (suc n) low =
    let one : n + 1 ≡ suc n = omega arith in
    let more : below (weight w x) (suc n) ≡ below (weight w x) n + weight w x n = ap (below (weight w x)) (sym one) ∙ below-more (weight w x) n in
    elim (cases_eq n x) as (λ _. below (weight w x) (suc n) ≡ w x) [
      | inl same ↦ (
          let none : below (weight w x) n ≡ 0 = below-none (weight w x) n (λ a less. weight-off w x a (λ is. omega (arith, is, less, same))) in
          let here : weight w x n ≡ w x = weight-on w x n same ∙ ap w same in
          omega (arith, more, none, here))
      | inr differ ↦ (
          let rest : below (weight w x) n ≡ w x = one-weight w x n (omega (arith, low, differ)) in
          let here : weight w x n ≡ 0 = weight-off w x n differ in
          omega (arith, more, rest, here))
    ]

pub all-weights : (w : ℕ → ℕ) (n : ℕ) (xs : List ℕ) → AllByRecursion (λ x. x < n) xs → below (weight_in w xs) n ≡ weigh_list w xs
all-weights w n [] low = below-none (λ a. 0) n (λ a less. refl)
all-weights w n (x ∷ xs) low =
    let sum : below (weight_in w (x ∷ xs)) n ≡ below (weight w x) n + below (weight_in w xs) n = below-sum (weight w x) (weight_in w xs) n in
    let first : below (weight w x) n ≡ w x = one-weight w x n low.0 in
    let rest : below (weight_in w xs) n ≡ weigh_list w xs = all-weights w n xs low.1 in
    omega (arith, sum, first, rest)

weighs-nothing : (w : ℕ → ℕ) (a : ℕ) (xs : List ℕ) → AllByRecursion (λ y. a ≡ y → ⊥) xs → weight_in w xs a ≡ 0
weighs-nothing w a [] off = refl
weighs-nothing w a (x ∷ xs) off =
    let here : weight w x a ≡ 0 = weight-off w x a off.0 in
    let rest : weight_in w xs a ≡ 0 = weighs-nothing w a xs off.1 in
    omega (arith, here, rest)

-- an address is in the list once, or not
pub record Once (P : ℕ → Type 0) (xs : List ℕ) (a : ℕ) : Type 0 where
  pub has : P a
  pub weighs : (w : ℕ → ℕ) → weight_in w xs a ≡ w a

pub once-or-none : (P : ℕ → Type 0) (xs : List ℕ) (a : ℕ) → AllByRecursion P xs → Distinct xs → ((w : ℕ → ℕ) → weight_in w xs a ≡ 0) ⊎ Once P xs a
once-or-none P [] a each distinct = inl (λ w. refl)
once-or-none P (x ∷ xs) a each distinct = elim (cases_eq a x) as (λ _. ((w : ℕ → ℕ) → weight_in w (x ∷ xs) a ≡ 0) ⊎ Once P (x ∷ xs) a) [
  | inl same ↦ inr (record {
    has = subst P (sym same) each.0;
    weighs = λ w.
        let here : weight w x a ≡ w a = weight-on w x a same in
        let none : weight_in w xs a ≡ 0 = weighs-nothing w a xs (subst (λ b. AllByRecursion (λ y. b ≡ y → ⊥) xs) (sym same) distinct.0) in
        omega (arith, here, none);
  })
  | inr differ ↦ elim (once-or-none P xs a each.1 distinct.1) as (λ _. ((w : ℕ → ℕ) → weight_in w (x ∷ xs) a ≡ 0) ⊎ Once P (x ∷ xs) a) [
    | inl none ↦ inl (λ w. let here : weight w x a ≡ 0 = weight-off w x a differ in let rest : weight_in w xs a ≡ 0 = none w in omega (arith, here, rest))
    | inr once ↦ inr (record {
      has = once.has;
      weighs = λ w. let here : weight w x a ≡ 0 = weight-off w x a differ in let rest : weight_in w xs a ≡ w a = once.weighs w in omega (arith, here, rest);
    })
  ]
]

pub below-next : (f : ℕ → ℕ) (n : ℕ) → below f (suc n) ≡ below f n + f n
below-next f n = let one : n + 1 ≡ suc n = omega arith in ap (below f) (sym one) ∙ below-more f n

pub below-same : (f g : ℕ → ℕ) (n : ℕ) → ((k : ℕ) → f k ≡ g k) → below f n ≡ below g n
below-same f g zero each = refl
below-same f g (suc n) each =
    let first : below f (suc n) ≡ below f n + f n = below-next f n in
    let second : below g (suc n) ≡ below g n + g n = below-next g n in
    let rest : below f n ≡ below g n = below-same f g n each in
    let here : f n ≡ g n = each n in
    omega (arith, first, second, rest, here)

-- a sum of numbers of which none is 0
pub at-least : (g : ℕ → ℕ) (n : ℕ) → ((k : ℕ) → k < n → 1 ≤ g k) → n ≤ below g n
at-least g zero each = omega arith
at-least g (suc n) each =
    let next : below g (suc n) ≡ below g n + g n = below-next g n in
    let rest : n ≤ below g n = at-least g n (λ k less. each k (omega (arith, less))) in
    let here : 1 ≤ g n = each n (omega arith) in
    omega (arith, next, rest, here)

-- a number of a sum that is 0
pub in-none : (g : ℕ → ℕ) (n k : ℕ) → below g n ≡ 0 → k < n → g k ≡ 0
in-none g zero k none low = absurd (omega (arith, low))
in-none g (suc n) k none low =
    let next : below g (suc n) ≡ below g n + g n = below-next g n in
    elim (cases_eq k n) as (λ _. g k ≡ 0) [
      | inl same ↦ (let last : g n ≡ 0 = omega (arith, next, none) in ap g same ∙ last)
      | inr differ ↦ in-none g n k (omega (arith, next, none)) (omega (arith, low, differ))
    ]

-- rows and columns
pub exchanged : (f : ℕ → ℕ → ℕ) (n m : ℕ) → below (λ k. below (λ a. f a k) n) m ≡ below (λ a. below (f a) m) n
exchanged f zero m = below-none (λ k. 0) m (λ k less. refl)
exchanged f (suc n) m =
    let rows : below (λ k. below (λ a. f a k) (suc n)) m ≡ below (λ k. below (λ a. f a k) n + f n k) m =
    below-same (λ k. below (λ a. f a k) (suc n)) (λ k. below (λ a. f a k) n + f n k) m (λ k. below-next (λ a. f a k) n) in
    let sum : below (λ k. below (λ a. f a k) n + f n k) m ≡ below (λ k. below (λ a. f a k) n) m + below (f n) m = below-sum (λ k. below (λ a. f a k) n) (f n) m in
    let next : below (λ a. below (f a) m) (suc n) ≡ below (λ a. below (f a) m) n + below (f n) m = below-next (λ a. below (f a) m) n in
    let rest : below (λ k. below (λ a. f a k) n) m ≡ below (λ a. below (f a) m) n = exchanged f n m in
    omega (arith, rows, sum, next, rest)

-- one number passes the test, and no other
one-here : (f : ℕ → Bool) (x a : ℕ) → f x ≡ true → (f a ≡ true → a ≡ x) → one_if (f a) ≡ weight (λ _. 1) x a
one-here f x a is alone = elim (cases_eq a x) as (λ _. one_if (f a) ≡ weight (λ _. 1) x a) [
  | inl same ↦ ap one_if (ap f same ∙ is) ∙ sym (weight-on (λ _. 1) x a same)
  | inr differ ↦ ap one_if (elim (cases_Bool (f a)) as (λ _. f a ≡ false) [ inl has ↦ absurd (differ (alone has)) | inr off ↦ off ]) ∙ sym (weight-off (λ _. 1) x a differ)
]

pub exactly-one : (f : ℕ → Bool) (n x : ℕ) → x < n → f x ≡ true → ((a : ℕ) → f a ≡ true → a ≡ x) → below (λ a. one_if (f a)) n ≡ 1
exactly-one f n x low is alone = below-same (λ a. one_if (f a)) (weight (λ _. 1) x) n (λ a. one-here f x a is (alone a)) ∙ one-weight (λ _. 1) x n low

-- an address that passes a test is not in a list of which none does
pub not-listed : (w : ℕ → ℕ) (test : ℕ → Bool) (a : ℕ) (xs : List ℕ) → list_any test xs ≡ false → test a ≡ true → weight_in w xs a ≡ 0
not-listed w test a [] none is = refl
not-listed w test a (x ∷ xs) none is =
    let off : test x ≡ false = elim (cases_Bool (test x)) as (λ _. test x ≡ false) [ inl has ↦ absurd (true≢false (sym (or_left (test x) (list_any test xs) has) ∙ none)) | inr off ↦ off ] in
    let others : list_any test xs ≡ false = elim (cases_Bool (list_any test xs)) as (λ _. list_any test xs ≡ false) [ inl has ↦ absurd (true≢false (sym (or_right (test x) (list_any test xs) has) ∙ none)) | inr off ↦ off ] in
    let here : weight w x a ≡ 0 = weight-off w x a (λ same. true≢false (sym is ∙ ap test same ∙ off)) in
    let rest : weight_in w xs a ≡ 0 = not-listed w test a xs others is in
    omega (arith, here, rest)

pub weighed : (w : ℕ → ℕ) (xs : List ℕ) → sum_by w xs ≡ weigh_list w xs
weighed w [] = refl
weighed w (x ∷ xs) = sum_by-cons w x xs ∙ ap (λ n. w x + n) (weighed w xs)

-- so many numbers from one on
abbrev pub inside : ℕ → ℕ → ℕ → Bool
inside f n k = nat_le f k && nat_lt k (f + n)

abbrev pub in-range : ℕ → ℕ → ℕ → ℕ
in-range f n k = one_if (inside f n k)

pub outside : (f n k : ℕ) → (f ≤ k → k < f + n → ⊥) → inside f n k ≡ false
outside f n k not = elim (cases_Bool (inside f n k)) as (λ _. inside f n k ≡ false) [
  | inl is ↦ (let both = and_parts (nat_le f k) (nat_lt k (f + n)) is in absurd (not (leb-true f k both.0) (ltb-true k (f + n) both.1)))
  | inr off ↦ off
]

up-to : (f n d : ℕ) → d ≤ n → below (in-range f n) (f + d) ≡ d
up-to f n zero low =
    let end : f + 0 ≡ f = omega arith in
    ap (below (in-range f n)) end ∙ below-none (in-range f n) f (λ k less. ap one_if (outside f n k (λ from past. omega (arith, less, from))))
up-to f n (suc d) low =
    let end : f + suc d ≡ suc (f + d) = omega arith in
    let next : below (in-range f n) (suc (f + d)) ≡ below (in-range f n) (f + d) + in-range f n (f + d) = below-next (in-range f n) (f + d) in
    let here : in-range f n (f + d) ≡ 1 = ap one_if (and_from _ _ (le-leb f (f + d) (omega arith)) (lt-ltb (f + d) (f + n) (omega (arith, low)))) in
    let rest : below (in-range f n) (f + d) ≡ d = up-to f n d (omega (arith, low)) in
    ap (below (in-range f n)) end ∙ omega (arith, next, here, rest)

beyond : (f n e : ℕ) → below (in-range f n) (f + n + e) ≡ n
beyond f n zero = let end : f + n + 0 ≡ f + n = omega arith in ap (below (in-range f n)) end ∙ up-to f n n (omega arith)
beyond f n (suc e) =
    let end : f + n + suc e ≡ suc (f + n + e) = omega arith in
    let next : below (in-range f n) (suc (f + n + e)) ≡ below (in-range f n) (f + n + e) + in-range f n (f + n + e) = below-next (in-range f n) (f + n + e) in
    let here : in-range f n (f + n + e) ≡ 0 = ap one_if (outside f n (f + n + e) (λ from past. omega (arith, past))) in
    let rest : below (in-range f n) (f + n + e) ≡ n = beyond f n e in
    ap (below (in-range f n)) end ∙ omega (arith, next, here, rest)

pub counted : (f n b : ℕ) → f + n ≤ b → below (in-range f n) b ≡ n
counted f n b low = let end : f + n + (b - (f + n)) ≡ b = omega (arith, low) in ap (below (in-range f n)) (sym end) ∙ beyond f n (b - (f + n))
