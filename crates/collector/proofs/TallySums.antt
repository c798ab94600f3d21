-- Sums over all addresses of a heap: of what lists of addresses and of tokens have there.
use Rattle.std.proofs.Common.{◌≡◌, ◌≢◌, refl, ◌∙◌, ap, subst, ℕ, ◌+◌, ◌*◌, ◌<◌, ◌≤◌, inl, inr, arith, nat_eq, nat_le, zero, suc, List, [], ◌∷◌, length}
use Rattle.std.specs.Prelude.{All, sum_by}
use Rattle.std.specs.List.{range_with_len}
use Rattle.std.proofs.lemmas.Bool.{cases_eq, cond-true, eq-eqb, ne_eqb, le-leb}
use Rattle.std.proofs.lemmas.List.Elements.{All-head, All-tail}
use Rattle.std.proofs.lemmas.List.FromFn.{length-range_with_len}
use Rattle.std.proofs.lemmas.List.Sums.{sum_by-cons, sum_by-le}
use Rattle.heap_layout.specs.Zones.{row_words}
use Rattle.object_model.specs.Times.{one_if, times}
use Rattle.plain_tracer.specs.TokenRights.{copied_in}
use Rattle.plain_tracer.specs.declared.tokens.Grey.{Grey}
use Rattle.trace_core.proofs.CountedRights.{times-cons}
use Rattle.racing_collector.specs.Together.{total}
use Rattle.collector.specs.Tallies.{capped}

-- sums over the addresses from a on
abbrev pub sum_over : (ℕ → ℕ) → ℕ → ℕ → ℕ
sum_over f a n = sum_by f (range_with_len a n)

pub sum-first : (f : ℕ → ℕ) (a n : ℕ) → sum_over f a (suc n) ≡ f a + sum_over f (a + 1) n
sum-first f a n = sum_by-cons f a (range_with_len (a + 1) n)

pub sum-same : (f g : ℕ → ℕ) (a n : ℕ) → ((i : ℕ) → a ≤ i → i < a + n → f i ≡ g i) → sum_over f a n ≡ sum_over g a n
sum-same f g a zero same = refl
sum-same f g a (suc n) same =
    let left : sum_over f a (suc n) ≡ f a + sum_over f (a + 1) n = sum-first f a n in
    let right : sum_over g a (suc n) ≡ g a + sum_over g (a + 1) n = sum-first g a n in
    let here : f a ≡ g a = same a (omega arith) (omega arith) in
    let rest : sum_over f (a + 1) n ≡ sum_over g (a + 1) n = sum-same f g (a + 1) n (λ i from below. same i (omega arith) (omega arith)) in
    omega arith

pub sum-both : (f g : ℕ → ℕ) (a n : ℕ) → sum_over (λ i. f i + g i) a n ≡ sum_over f a n + sum_over g a n
sum-both f g a zero = refl
sum-both f g a (suc n) =
    let all : sum_over (λ i. f i + g i) a (suc n) ≡ f a + g a + sum_over (λ i. f i + g i) (a + 1) n = sum-first (λ i. f i + g i) a n in
    let left : sum_over f a (suc n) ≡ f a + sum_over f (a + 1) n = sum-first f a n in
    let right : sum_over g a (suc n) ≡ g a + sum_over g (a + 1) n = sum-first g a n in
    let rest : sum_over (λ i. f i + g i) (a + 1) n ≡ sum_over f (a + 1) n + sum_over g (a + 1) n = sum-both f g (a + 1) n in
    omega arith

pub sum-none : (f : ℕ → ℕ) (a n : ℕ) → ((i : ℕ) → a ≤ i → i < a + n → f i ≡ 0) → sum_over f a n ≡ 0
sum-none f a zero none = refl
sum-none f a (suc n) none =
    let all : sum_over f a (suc n) ≡ f a + sum_over f (a + 1) n = sum-first f a n in
    let here : f a ≡ 0 = none a (omega arith) (omega arith) in
    let rest : sum_over f (a + 1) n ≡ 0 = sum-none f (a + 1) n (λ i from below. none i (omega arith) (omega arith)) in
    omega arith

-- the sum of what is at one address
abbrev pub only : (ℕ → ℕ) → ℕ → ℕ → ℕ
only weight x i = one_if (nat_eq i x) * weight i

only-there : (weight : ℕ → ℕ) (x : ℕ) → only weight x x ≡ weight x
only-there weight x = let one : one_if (nat_eq x x) * weight x ≡ 1 * weight x = ap (λ b. one_if b * weight x) (eq-eqb x x refl) in omega arith

only-else : (weight : ℕ → ℕ) (x i : ℕ) → i ≢ x → only weight x i ≡ 0
only-else weight x i ne = let none : one_if (nat_eq i x) * weight i ≡ 0 * weight i = ap (λ b. one_if b * weight i) (ne_eqb i x ne) in omega arith

pub sum-only : (weight : ℕ → ℕ) (x a n : ℕ) → a ≤ x → x < a + n → sum_over (only weight x) a n ≡ weight x
sum-only weight x a zero from below = absurd (omega arith)
sum-only weight x a (suc n) from below =
    let all : sum_over (only weight x) a (suc n) ≡ only weight x a + sum_over (only weight x) (a + 1) n = sum-first (only weight x) a n in
    elim (cases_eq a x) as (λ _. sum_over (only weight x) a (suc n) ≡ weight x) [
      | inl e ↦ (let here : only weight x a ≡ weight x = ap (only weight x) e ∙ only-there weight x in
          let rest : sum_over (only weight x) (a + 1) n ≡ 0 = sum-none (only weight x) (a + 1) n (λ i after _. only-else weight x i (λ same. omega arith)) in omega arith)
      | inr ne ↦ (let here : only weight x a ≡ 0 = only-else weight x a ne in
          let rest : sum_over (only weight x) (a + 1) n ≡ weight x = sum-only weight x (a + 1) n (omega arith) (omega arith) in omega arith)
    ]

-- sums over all addresses
module _ (b : ℕ) where
  pub total-same : (f g : ℕ → ℕ) → ((i : ℕ) → i < row_words b → f i ≡ g i) → total b f ≡ total b g
  total-same f g same = sum-same f g 0 (row_words b) (λ i _ below. same i (omega arith))

  pub total-both : (f g : ℕ → ℕ) → total b (λ a. f a + g a) ≡ total b f + total b g
  total-both f g = sum-both f g 0 (row_words b)

  pub total-most : (f : ℕ → ℕ) (most : ℕ) → ((i : ℕ) → f i ≤ most) → total b f ≤ row_words b * most
  total-most f most each =
      let long : length (range_with_len 0 (row_words b)) ≡ row_words b = length-range_with_len 0 (row_words b) in
      subst (λ n. total b f ≤ n * most) long (sum_by-le f most (range_with_len 0 (row_words b)) (λ k d _. each _))

  -- what the tokens' objects weigh is the sum over addresses of what each weighs there
  pub total-tokens : (weight : ℕ → ℕ) (pushed : List Grey) → All (λ grey. grey.object < row_words b) pushed
      → total b (λ a. times a (copied_in pushed) * weight a) ≡ sum_by (λ grey. weight grey.object) pushed
  total-tokens weight [] there = sum-none (λ a. times a (copied_in []) * weight a) 0 (row_words b) (λ i _ _. let none : 0 * weight i ≡ 0 = omega arith in none)
  total-tokens weight (grey ∷ pushed) there =
      let x : ℕ = grey.object in
      let rest : total b (λ a. times a (copied_in pushed) * weight a) ≡ sum_by (λ grey. weight grey.object) pushed = total-tokens weight pushed (All-tail (λ grey. grey.object < row_words b) grey pushed there) in
      let here : total b (only weight grey.object) ≡ weight grey.object = sum-only weight grey.object 0 (row_words b) (omega arith)
      (let below : grey.object < row_words b = All-head (λ grey. grey.object < row_words b) grey pushed there in omega arith) in
      let parts : total b (λ a. times a (copied_in (grey ∷ pushed)) * weight a) ≡ total b (λ a. only weight grey.object a + times a (copied_in pushed) * weight a)
      = total-same (λ a. times a (copied_in (grey ∷ pushed)) * weight a) (λ a. only weight grey.object a + times a (copied_in pushed) * weight a) (λ a _. one-more a) in
      let both : total b (λ a. only weight grey.object a + times a (copied_in pushed) * weight a) ≡ total b (only weight grey.object) + total b (λ a. times a (copied_in pushed) * weight a)
      = total-both (only weight grey.object) (λ a. times a (copied_in pushed) * weight a) in
      let all : sum_by (λ (grey : Grey). weight grey.object) (grey ∷ pushed) ≡ weight grey.object + sum_by (λ (grey : Grey). weight grey.object) pushed
      = sum_by-cons (λ (grey : Grey). weight grey.object) grey pushed in
      omega arith
    where
      spread : (m n k : ℕ) → (m + n) * k ≡ m * k + n * k
      spread m n k = omega arith

      one-more : (a : ℕ) → times a (copied_in (grey ∷ pushed)) * weight a ≡ only weight grey.object a + times a (copied_in pushed) * weight a
      one-more a = ap (λ n. n * weight a) (times-cons grey.object (copied_in pushed) a) ∙ spread (one_if (nat_eq a grey.object)) (times a (copied_in pushed)) (weight a)

  -- what was copied weighs more by the tokens' objects
  pub total-more : (weight : ℕ → ℕ) (before after : List ℕ) (pushed : List Grey) → ((x : ℕ) → times x after ≡ times x (copied_in pushed) + times x before)
      → All (λ grey. grey.object < row_words b) pushed
      → total b (λ a. times a after * weight a) ≡ sum_by (λ grey. weight grey.object) pushed + total b (λ a. times a before * weight a)
  total-more weight before after pushed more there =
      total-same (λ a. times a after * weight a) (λ a. times a (copied_in pushed) * weight a + times a before * weight a)
      (λ a _. ap (λ n. n * weight a) (more a) ∙ spread (times a (copied_in pushed)) (times a before) (weight a))
      ∙ total-both (λ a. times a (copied_in pushed) * weight a) (λ a. times a before * weight a)
      ∙ ap (λ n. n + total b (λ a. times a before * weight a)) (total-tokens weight pushed there)
    where
      spread : (m n k : ℕ) → (m + n) * k ≡ m * k + n * k
      spread m n k = omega arith

  abbrev once : ℕ → ℕ
  once a = 1

  length-once : (pushed : List Grey) → sum_by (λ (grey : Grey). once grey.object) pushed ≡ length pushed
  length-once [] = refl
  length-once (grey ∷ pushed) =
      let all : sum_by (λ (grey : Grey). once grey.object) (grey ∷ pushed) ≡ 1 + sum_by (λ (grey : Grey). once grey.object) pushed = sum_by-cons (λ (grey : Grey). once grey.object) grey pushed in
      let rest : sum_by (λ (grey : Grey). once grey.object) pushed ≡ length pushed = length-once pushed in omega arith

  total-once : (l : List ℕ) → total b (λ a. times a l) ≡ total b (λ a. times a l * once a)
  total-once l = total-same (λ a. times a l) (λ a. times a l * once a) (λ a _. let e : times a l ≡ times a l * 1 = omega arith in e)

  -- as many are copied more as tokens were pushed
  pub total-copied : (before after : List ℕ) (pushed : List Grey) → ((x : ℕ) → times x after ≡ times x (copied_in pushed) + times x before)
      → All (λ grey. grey.object < row_words b) pushed → total b (λ a. times a after) ≡ length pushed + total b (λ a. times a before)
  total-copied before after pushed more there =
      let now : total b (λ a. times a after) ≡ total b (λ a. times a after * once a) = total-once after in
      let was : total b (λ a. times a before) ≡ total b (λ a. times a before * once a) = total-once before in
      let all : total b (λ a. times a after * once a) ≡ sum_by (λ (grey : Grey). once grey.object) pushed + total b (λ a. times a before * once a) = total-more once before after pushed more there in
      let each : sum_by (λ (grey : Grey). once grey.object) pushed ≡ length pushed = length-once pushed in omega arith

-- sums of lists that are equal element by element
pub sum-equal : {A : Type 0} (f g : A → ℕ) (xs : List A) → All (λ x. f x ≡ g x) xs → sum_by f xs ≡ sum_by g xs
sum-equal f g [] same = refl
sum-equal f g (x ∷ xs) same =
    let left : sum_by f (x ∷ xs) ≡ f x + sum_by f xs = sum_by-cons f x xs in
    let right : sum_by g (x ∷ xs) ≡ g x + sum_by g xs = sum_by-cons g x xs in
    let here : f x ≡ g x = All-head (λ x. f x ≡ g x) x xs same in
    let rest : sum_by f xs ≡ sum_by g xs = sum-equal f g xs (All-tail (λ x. f x ≡ g x) x xs same) in omega arith

-- what is no more than the most is not capped
uncapped : (most n : ℕ) → n ≤ most → capped most n ≡ n
uncapped most n few = cond-true (nat_le n most) n most (le-leb n most few)

pub count-next : (most now old n was is : ℕ) → now ≡ capped most (old + n) → old ≡ was → is ≡ n + was → is ≤ most → now ≡ is
count-next most now old n was is capped-at before all few =
    let sum : old + n ≡ is = omega arith in
    capped-at ∙ uncapped most (old + n) (omega arith) ∙ sum
