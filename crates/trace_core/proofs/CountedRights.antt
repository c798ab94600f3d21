-- How often an element is in a list.
use Rattle.std.proofs.Common.{◌≡◌, ℕ, ◌+◌, ◌<◌, ◌⊎◌, Bool, IsTrue, ◌&&◌, nat_eq, List, [], ◌∷◌, ◌++◌, refl, sym, ap, ◌∙◌, arith, inl, inr}
use Rattle.std.specs.Prelude.{count_by}
use Rattle.std.proofs.lemmas.Bool.{cases_Bool, cond-true, cond-false, and_parts, and_from, eqb-true, eq-eqb}
use Rattle.std.proofs.lemmas.List.Sums.{sum_by-cons, sum_by-append}
use Rattle.trace_core.specs.Views.{without, is_pair, hits}
use Rattle.object_model.specs.Times.{one_if, times}

pub count-cons : {A : Type 0} (f : A → Bool) (e : A) (l : List A) → count_by f (e ∷ l) ≡ one_if (f e) + count_by f l
count-cons f e l = sum_by-cons (λ x. one_if (f x)) e l

pub count-append : {A : Type 0} (f : A → Bool) (l k : List A) → count_by f (l ++ k) ≡ count_by f l + count_by f k
count-append f l k = sum_by-append (λ x. one_if (f x)) l k

-- A list loses the first element that passes a test. Where one does, and f is the same of all that do, f counts one less
-- or as many.
pub count-without : {A : Type 0} (f g : A → Bool) (b : Bool) → ((e : A) → IsTrue (g e) → f e ≡ b) → (l : List A) → 0 < count_by g l
    → count_by f l ≡ count_by f (without g l) + one_if b
count-without f g b same [] some = absurd (omega (arith, some))
count-without f g b same (e ∷ l) some = elim (cases_Bool (g e)) as (λ _. count_by f (e ∷ l) ≡ count_by f (without g (e ∷ l)) + one_if b) [
  | inl passes ↦ (let d : count_by f (e ∷ l) ≡ one_if (f e) + count_by f l = count-cons f e l in
      let at : one_if (f e) ≡ one_if b = ap one_if (same e passes) in
      let rest : count_by f (without g (e ∷ l)) ≡ count_by f l = ap (count_by f) (cond-true (g e) l (e ∷ without g l) passes) in omega arith)
  | inr fails ↦ (let d : count_by f (e ∷ l) ≡ one_if (f e) + count_by f l = count-cons f e l in
      let c : count_by g (e ∷ l) ≡ one_if (g e) + count_by g l = count-cons g e l in
      let zero : one_if (g e) ≡ 0 = ap one_if fails in
      let rest : count_by f (without g (e ∷ l)) ≡ one_if (f e) + count_by f (without g l) = ap (count_by f) (cond-false (g e) l (e ∷ without g l) fails) ∙ count-cons f e (without g l) in
      let less : count_by f l ≡ count_by f (without g l) + one_if b = count-without f g b same l (omega arith) in omega arith)
]

pair-same : (x k y j : ℕ) (e : ℕ × ℕ) → IsTrue (is_pair x k e) → is_pair y j e ≡ is_pair y j (x, k)
pair-same x k y j e is = let both = and_parts (nat_eq e.0 x) (nat_eq e.1 k) is in
    ap (λ z. nat_eq z y && nat_eq e.1 j) (eqb-true e.0 x both.0) ∙ ap (λ z. nat_eq x y && nat_eq z j) (eqb-true e.1 k both.1)

pub hits-without : (x k : ℕ) (l : List (ℕ × ℕ)) → 0 < hits x k l → (y j : ℕ) → hits y j l ≡ hits y j (without (is_pair x k) l) + one_if (is_pair y j (x, k))
hits-without x k l some y j = count-without (is_pair y j) (is_pair x k) (is_pair y j (x, k)) (pair-same x k y j) l some

pub hits-cons : (x k : ℕ) (l : List (ℕ × ℕ)) (y j : ℕ) → hits y j ((x, k) ∷ l) ≡ one_if (is_pair y j (x, k)) + hits y j l
hits-cons x k l y j = count-cons (is_pair y j) (x, k) l

pub hits-here : (x k : ℕ) (l : List (ℕ × ℕ)) → 0 < hits x k ((x, k) ∷ l)
hits-here x k l = let d = hits-cons x k l x k in
    let one : one_if (is_pair x k (x, k)) ≡ 1 = ap one_if (and_from (nat_eq x x) (nat_eq k k) (eq-eqb x x refl) (eq-eqb k k refl)) in omega arith

pub hits-more : (x k : ℕ) (l : List (ℕ × ℕ)) (y j : ℕ) → 0 < hits y j l → 0 < hits y j ((x, k) ∷ l)
hits-more x k l y j some = let d = hits-cons x k l y j in omega arith

-- what is in a list with one more is that, or was there
pub hits-from : (x k : ℕ) (l : List (ℕ × ℕ)) (y j : ℕ) → 0 < hits y j ((x, k) ∷ l) → IsTrue (is_pair y j (x, k)) ⊎ (0 < hits y j l)
hits-from x k l y j some = elim (cases_Bool (is_pair y j (x, k))) as (λ _. IsTrue (is_pair y j (x, k)) ⊎ (0 < hits y j l)) [
  | inl here ↦ inl here
  | inr other ↦ inr (let d = hits-cons x k l y j in let zero : one_if (is_pair y j (x, k)) ≡ 0 = ap one_if other in omega arith)
]

pub pair-parts : (x k y j : ℕ) → IsTrue (is_pair y j (x, k)) → (x ≡ y) × (k ≡ j)
pair-parts x k y j is = let both = and_parts (nat_eq x y) (nat_eq k j) is in (eqb-true x y both.0, eqb-true k j both.1)

pub times-cons : (x : ℕ) (l : List ℕ) (y : ℕ) → times y (x ∷ l) ≡ one_if (nat_eq y x) + times y l
times-cons x l y = count-cons (nat_eq y) x l

time-same : (x y : ℕ) (e : ℕ) → IsTrue (nat_eq x e) → nat_eq y e ≡ nat_eq y x
time-same x y e is = ap (nat_eq y) (sym (eqb-true x e is))

pub times-without : (x : ℕ) (l : List ℕ) → 0 < times x l → (y : ℕ) → times y l ≡ times y (without (nat_eq x) l) + one_if (nat_eq y x)
times-without x l some y = count-without (nat_eq y) (nat_eq x) (nat_eq y x) (time-same x y) l some
