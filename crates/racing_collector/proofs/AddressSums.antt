-- Sums over all addresses of a heap: of what lists of addresses and of tokens have there.
use Rattle.std.proofs.Common.{◌≡◌, ◌≢◌, refl, ◌∙◌, ap, ℕ, ◌+◌, ◌*◌, ◌<◌, ◌≤◌, inl, inr, arith, nat_eq, zero, suc, List, [], ◌∷◌, length, map}
use Rattle.std.specs.Prelude.{All, sum_by}
use Rattle.std.specs.List.{range_with_len}
use Rattle.std.proofs.lemmas.Bool.{cases_eq, eq-eqb, ne_eqb}
use Rattle.std.proofs.lemmas.List.Elements.{All-head, All-tail}
use Rattle.std.proofs.lemmas.List.Sums.{sum_by-cons}
use Rattle.heap_layout.specs.Zones.{row_words}
use Rattle.object_model.specs.Times.{one_if, times}
use Rattle.trace_table.specs.declared.tokens.Grey.{Grey}
use Rattle.trace_core.proofs.CountedRights.{times-cons}
use Rattle.racing_collector.specs.Together.{total}

-- sums over the addresses from a on
abbrev sum_over : (ℕ → ℕ) → ℕ → ℕ → ℕ
sum_over f a n = sum_by f (range_with_len a n)

sum-first : (f : ℕ → ℕ) (a n : ℕ) → sum_over f a (suc n) ≡ f a + sum_over f (a + 1) n
sum-first f a n = sum_by-cons f a (range_with_len (a + 1) n)

sum-same : (f g : ℕ → ℕ) (a n : ℕ) → ((i : ℕ) → a ≤ i → i < a + n → f i ≡ g i) → sum_over f a n ≡ sum_over g a n
sum-same f g a zero same = refl
sum-same f g a (suc n) same =
    let left : sum_over f a (suc n) ≡ f a + sum_over f (a + 1) n = sum-first f a n in
    let right : sum_over g a (suc n) ≡ g a + sum_over g (a + 1) n = sum-first g a n in
    let here : f a ≡ g a = same a (omega arith) (omega arith) in
    let rest : sum_over f (a + 1) n ≡ sum_over g (a + 1) n = sum-same f g (a + 1) n (λ i from below. same i (omega arith) (omega arith)) in
    omega arith

sum-both : (f g : ℕ → ℕ) (a n : ℕ) → sum_over (λ i. f i + g i) a n ≡ sum_over f a n + sum_over g a n
sum-both f g a zero = refl
sum-both f g a (suc n) =
    let all : sum_over (λ i. f i + g i) a (suc n) ≡ f a + g a + sum_over (λ i. f i + g i) (a + 1) n = sum-first (λ i. f i + g i) a n in
    let left : sum_over f a (suc n) ≡ f a + sum_over f (a + 1) n = sum-first f a n in
    let right : sum_over g a (suc n) ≡ g a + sum_over g (a + 1) n = sum-first g a n in
    let rest : sum_over (λ i. f i + g i) (a + 1) n ≡ sum_over f (a + 1) n + sum_over g (a + 1) n = sum-both f g (a + 1) n in
    omega arith

sum-none : (f : ℕ → ℕ) (a n : ℕ) → ((i : ℕ) → a ≤ i → i < a + n → f i ≡ 0) → sum_over f a n ≡ 0
sum-none f a zero none = refl
sum-none f a (suc n) none =
    let all : sum_over f a (suc n) ≡ f a + sum_over f (a + 1) n = sum-first f a n in
    let here : f a ≡ 0 = none a (omega arith) (omega arith) in
    let rest : sum_over f (a + 1) n ≡ 0 = sum-none f (a + 1) n (λ i from below. none i (omega arith) (omega arith)) in
    omega arith

sum-less : (f g : ℕ → ℕ) (a n : ℕ) → ((i : ℕ) → f i ≤ g i) → sum_over f a n ≤ sum_over g a n
sum-less f g a zero less = omega arith
sum-less f g a (suc n) less =
    let left : sum_over f a (suc n) ≡ f a + sum_over f (a + 1) n = sum-first f a n in
    let right : sum_over g a (suc n) ≡ g a + sum_over g (a + 1) n = sum-first g a n in
    let here : f a ≤ g a = less a in
    let rest : sum_over f (a + 1) n ≤ sum_over g (a + 1) n = sum-less f g (a + 1) n less in
    omega arith

sum-ones : (f : ℕ → ℕ) (a n : ℕ) → ((i : ℕ) → f i ≤ 1) → sum_over f a n ≤ n
sum-ones f a zero one = omega arith
sum-ones f a (suc n) one =
    let all : sum_over f a (suc n) ≡ f a + sum_over f (a + 1) n = sum-first f a n in
    let here : f a ≤ 1 = one a in
    let rest : sum_over f (a + 1) n ≤ n = sum-ones f (a + 1) n one in
    omega arith

-- the sum of what is at one address
abbrev only : (ℕ → ℕ) → ℕ → ℕ → ℕ
only weight x i = one_if (nat_eq i x) * weight i

only-there : (weight : ℕ → ℕ) (x : ℕ) → only weight x x ≡ weight x
only-there weight x = let one : one_if (nat_eq x x) * weight x ≡ 1 * weight x = ap (λ b. one_if b * weight x) (eq-eqb x x refl) in omega arith

only-else : (weight : ℕ → ℕ) (x i : ℕ) → i ≢ x → only weight x i ≡ 0
only-else weight x i ne = let none : one_if (nat_eq i x) * weight i ≡ 0 * weight i = ap (λ b. one_if b * weight i) (ne_eqb i x ne) in omega arith

sum-only : (weight : ℕ → ℕ) (x a n : ℕ) → a ≤ x → x < a + n → sum_over (only weight x) a n ≡ weight x
sum-only weight x a zero from below = absurd (omega arith)
sum-only weight x a (suc n) from below =
    let all : sum_over (only weight x) a (suc n) ≡ only weight x a + sum_over (only weight x) (a + 1) n = sum-first (only weight x) a n in
    elim (cases_eq a x) as (λ _. sum_over (only weight x) a (suc n) ≡ weight x) [
      | inl e ↦ (let here : only weight x a ≡ weight x = ap (only weight x) e ∙ only-there weight x in
          let rest : sum_over (only weight x) (a + 1) n ≡ 0 = sum-none (only weight x) (a + 1) n (λ i after _. only-else weight x i (λ same. omega arith)) in omega arith)
      | inr ne ↦ (let here : only weight x a ≡ 0 = only-else weight x a ne in
          let rest : sum_over (only weight x) (a + 1) n ≡ weight x = sum-only weight x (a + 1) n (omega arith) (omega arith) in omega arith)
    ]

-- sums over all addresses
abbrev copied_in : List Grey → List ℕ
copied_in l = map (λ (g : Grey). g.object) l

module _ (b : ℕ) where
  pub total-same : (f g : ℕ → ℕ) → ((i : ℕ) → i < row_words b → f i ≡ g i) → total b f ≡ total b g
  total-same f g same = sum-same f g 0 (row_words b) (λ i _ below. same i (omega arith))

  pub total-both : (f g : ℕ → ℕ) → total b (λ a. f a + g a) ≡ total b f + total b g
  total-both f g = sum-both f g 0 (row_words b)

  -- what the tokens' objects weigh is the sum over addresses of what each weighs there
  pub total-tokens : (weight : ℕ → ℕ) (pushed : List Grey) → All (λ grey. grey.object < row_words b) pushed
      → total b (λ a. times a (copied_in pushed) * weight a) ≡ sum_by (λ grey. weight grey.object) pushed
  total-tokens weight [] there = sum-none (λ a. times a (copied_in []) * weight a) 0 (row_words b) (λ i _ _. let none : 0 * weight i ≡ 0 = omega arith in none)
  total-tokens weight (grey ∷ pushed) there =
      let x : ℕ = grey.object in
      let rest : total b (λ a. times a (copied_in pushed) * weight a) ≡ sum_by (λ grey. weight grey.object) pushed = total-tokens weight pushed (All-tail (λ grey. grey.object < row_words b) grey pushed there) in
      let here : total b (only weight grey.object) ≡ weight grey.object = sum-only weight grey.object 0 (row_words b) (omega arith)
      (let below : grey.object < row_words b = All-head (λ grey. grey.object < row_words b) grey pushed there in omega arith) in
      let parts : total b (λ a. times a (copied_in (grey ∷ pushed)) * weight a) ≡ total b (λ a. only weight grey.object a + times a (copied_in pushed) * weight a)
      = total-same (λ a. times a (copied_in (grey ∷ pushed)) * weight a) (λ a. only weight grey.object a + times a (copied_in pushed) * weight a) (λ a _. one-more a) in
      let both : total b (λ a. only weight grey.object a + times a (copied_in pushed) * weight a) ≡ total b (only weight grey.object) + total b (λ a. times a (copied_in pushed) * weight a)
      = total-both (only weight grey.object) (λ a. times a (copied_in pushed) * weight a) in
      let all : sum_by (λ (grey : Grey). weight grey.object) (grey ∷ pushed) ≡ weight grey.object + sum_by (λ (grey : Grey). weight grey.object) pushed
      = sum_by-cons (λ (grey : Grey). weight grey.object) grey pushed in
      omega arith
    where
      spread : (m n k : ℕ) → (m + n) * k ≡ m * k + n * k
      spread m n k = omega arith

      one-more : (a : ℕ) → times a (copied_in (grey ∷ pushed)) * weight a ≡ only weight grey.object a + times a (copied_in pushed) * weight a
      one-more a = ap (λ n. n * weight a) (times-cons grey.object (copied_in pushed) a) ∙ spread (one_if (nat_eq a grey.object)) (times a (copied_in pushed)) (weight a)

  abbrev once : ℕ → ℕ
  once a = 1

  -- at most one at each address
  pub total-ones : (f : ℕ → ℕ) → ((i : ℕ) → f i ≤ 1) → total b f ≤ row_words b
  total-ones f one = sum-ones f 0 (row_words b) one

  -- a list of addresses has as many as there are at all addresses
  pub total-list : (l : List ℕ) → ((x : ℕ) → 0 < times x l → x < row_words b) → total b (λ a. times a l) ≡ length l
  total-list [] there = sum-none (λ a. times a []) 0 (row_words b) (λ i _ _. refl)
  total-list (x ∷ l) there =
      let rest : total b (λ a. times a l) ≡ length l = total-list l (λ y some. there y (let a = times-cons x l y in omega arith)) in
      let below : x < row_words b = there x (let a = times-cons x l x in let one : one_if (nat_eq x x) ≡ 1 = ap one_if (eq-eqb x x refl) in omega arith) in
      let here : total b (only once x) ≡ 1 = sum-only once x 0 (row_words b) (omega arith) (omega arith) in
      let parts : total b (λ a. times a (x ∷ l)) ≡ total b (λ a. only once x a + times a l)
      = total-same (λ a. times a (x ∷ l)) (λ a. only once x a + times a l) (λ a _. (let c = times-cons x l a in let e : only once x a ≡ one_if (nat_eq a x) = one-time (one_if (nat_eq a x)) in omega arith)) in
      let both : total b (λ a. only once x a + times a l) ≡ total b (only once x) + total b (λ a. times a l) = total-both (only once x) (λ a. times a l) in
      omega arith
    where
      one-time : (n : ℕ) → n * 1 ≡ n
      one-time n = omega arith

  -- a list of some of them, each once, is no longer than all are
  pub few-listed : (l : List ℕ) (some : ℕ → ℕ) → ((x : ℕ) → times x l ≤ some x) → ((x : ℕ) → 0 < times x l → x < row_words b) → length l ≤ total b some
  few-listed l some each there = let a = total-list l there in let c : total b (λ x. times x l) ≤ total b some = sum-less (λ x. times x l) some 0 (row_words b) each in omega arith

  length-once : (pushed : List Grey) → sum_by (λ (grey : Grey). once grey.object) pushed ≡ length pushed
  length-once [] = refl
  length-once (grey ∷ pushed) =
      let all : sum_by (λ (grey : Grey). once grey.object) (grey ∷ pushed) ≡ 1 + sum_by (λ (grey : Grey). once grey.object) pushed = sum_by-cons (λ (grey : Grey). once grey.object) grey pushed in
      let rest : sum_by (λ (grey : Grey). once grey.object) pushed ≡ length pushed = length-once pushed in omega arith

  -- as many objects are listed as there are tokens
  pub total-length : (pushed : List Grey) → All (λ grey. grey.object < row_words b) pushed → total b (λ a. times a (copied_in pushed)) ≡ length pushed
  total-length pushed there =
      total-same (λ a. times a (copied_in pushed)) (λ a. times a (copied_in pushed) * once a) (λ a _. let e : times a (copied_in pushed) ≡ times a (copied_in pushed) * 1 = omega arith in e)
      ∙ total-tokens once pushed there ∙ length-once pushed

-- sums of lists that are equal element by element
pub sum-equal : {A : Type 0} (f g : A → ℕ) (xs : List A) → All (λ x. f x ≡ g x) xs → sum_by f xs ≡ sum_by g xs
sum-equal f g [] same = refl
sum-equal f g (x ∷ xs) same =
    let left : sum_by f (x ∷ xs) ≡ f x + sum_by f xs = sum_by-cons f x xs in
    let right : sum_by g (x ∷ xs) ≡ g x + sum_by g xs = sum_by-cons g x xs in
    let here : f x ≡ g x = All-head (λ x. f x ≡ g x) x xs same in
    let rest : sum_by f xs ≡ sum_by g xs = sum-equal f g xs (All-tail (λ x. f x ≡ g x) x xs same) in omega arith
