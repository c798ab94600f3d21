-- One of several mutators: what holds of each mutator holds of it, and no other has its number.
use Rattle.std.proofs.Common.{◌≡◌, refl, sym, ◌∙◌, ap, subst, ℕ, zero, suc, ◌<◌, inl, inr, arith, List, [], ◌∷◌, length, get_or, map, nat_eq}
use Rattle.std.specs.Prelude.{if◌then◌else◌}
use Rattle.std.specs.List.{AllByRecursion, Any, Contains}
use Rattle.std.proofs.lemmas.Bool.{cases_eq, cond-true, cond-false, eq-eqb, ne_eqb}
use Rattle.std.proofs.lemmas.List.{get_or_default, get_or-map, length-map}
use Rattle.object_model.specs.Graphs.{MutatorState, AreDifferent, numbers_of, with_register, set_register_of, with_mutator}

-- what holds of each element of a list holds of one of them
pub all-at : {X : Type 0} (P : X → Type 0) (xs : List X) (x : X) → AllByRecursion P xs → Contains xs x → P x
all-at P [] x all known = absurd (let there : known.0 < 0 = known.1 in omega arith)
all-at P (y ∷ ys) x all (zero, within, is) = subst P is all.0
all-at P (y ∷ ys) x all (suc k, within, is) = all-at P ys x all.1 (k, omega arith, is)

-- if P implies Q, P of each element implies Q of each element
pub all-to : {X : Type 0} (P Q : X → Type 0) → ((x : X) → P x → Q x) → (xs : List X) → AllByRecursion P xs → AllByRecursion Q xs
all-to P Q to [] all = tt
all-to P Q to (x ∷ xs) all = (to x all.0, all-to P Q to xs all.1)

-- what holds of the element at each index holds of each element
pub all-from : {X : Type 0} (P : X → Type 0) (xs : List X) → ((i : ℕ) (x : X) → i < length xs → get_or xs i x ≡ x → P x) → AllByRecursion P xs
all-from P [] each = tt
all-from P (x ∷ xs) each = (each 0 x (omega arith) refl, all-from P xs (λ i y within is. each (suc i) y (omega arith) is))

-- one number belongs to one mutator
pub one-number : (P : MutatorState → Type 0) (k : ℕ) (ms : List MutatorState) → AreDifferent (numbers_of ms) → Any (λ m. (k ≡ m.number) × P m) ms
    → AllByRecursion (λ m. k ≡ m.number → P m) ms
one-number P k ms differ any = all-from (λ m. k ≡ m.number → P m) ms (λ i x within is same.
    let many : length (numbers_of ms) ≡ length ms = length-map ms (λ m. m.number) in
    let there : any.0 < length ms = any.2 in
    let here : get_or (numbers_of ms) i 0 ≡ k = get_or_default (numbers_of ms) i 0 x.number (omega arith) ∙ get_or-map (λ m. m.number) ms i x x.number within ∙ ap (λ m. m.number) is ∙ sym same in
    let other : get_or (numbers_of ms) any.0 0 ≡ k = get_or_default (numbers_of ms) any.0 0 any.1.number (omega arith) ∙ get_or-map (λ m. m.number) ms any.0 any.1 any.1.number any.2 ∙ ap (λ m. m.number) any.3 ∙ sym any.4.0 in
    let place : any.0 ≡ i = differ any.0 i (omega arith) (omega arith) (other ∙ sym here) in
    let element : any.1 ≡ x = sym any.3 ∙ get_or_default ms any.0 any.1 x any.2 ∙ ap (λ j. get_or ms j x) place ∙ is in
    subst P element any.4.1)

map-where : {X Y : Type 0} (f g : X → Y) (P : X → Type 0) → ((x : X) → P x → f x ≡ g x) → (xs : List X) → AllByRecursion P xs → map f xs ≡ map g xs
map-where f g P same [] all = refl
map-where f g P same (x ∷ xs) all = ap (λ y. y ∷ map f xs) (same x all.0) ∙ ap (λ ys. g x ∷ ys) (map-where f g P same xs all.1)

map-self : {X : Type 0} (xs : List X) → map (λ x. x) xs ≡ xs
map-self [] = refl
map-self (x ∷ xs) = ap (λ ys. x ∷ ys) (map-self xs)

module _ (ms : List MutatorState) (m : MutatorState) (among : Contains ms m) where
  -- its number is one of theirs
  pub number-among : Contains (numbers_of ms) m.number
  number-among = (
    among.0,
    (let many : length (numbers_of ms) ≡ length ms = length-map ms (λ x. x.number) in let there : among.0 < length ms = among.1 in omega arith),
    get_or-map (λ x. x.number) ms among.0 m m.number among.1 ∙ ap (λ x. x.number) among.2,
  )

  module _ (differ : AreDifferent (numbers_of ms)) where
    -- the mutator with its number is this one
    only : AllByRecursion (λ x. m.number ≡ x.number → x ≡ m) ms
    only = one-number (λ x. x ≡ m) m.number ms differ (among.0, m, among.1, among.2, (refl, refl))

    -- a mutator that is unchanged
    pub with-itself : with_mutator ms m ≡ ms
    with-itself = map-where (λ x. if nat_eq x.number m.number then m else x) (λ x. x) (λ x. m.number ≡ x.number → x ≡ m)
        (λ x is. elim (cases_eq x.number m.number) as (λ _. (if nat_eq x.number m.number then m else x) ≡ x) [
          | inl e ↦ cond-true (nat_eq x.number m.number) m x (eq-eqb x.number m.number e) ∙ sym (is (sym e))
          | inr other ↦ cond-false (nat_eq x.number m.number) m x (ne_eqb x.number m.number other)
        ]) ms only
        ∙ map-self ms

    -- the value that one of its registers gets
    pub with-register-set : (d v : ℕ) → set_register_of ms m.number d v ≡ with_mutator ms (with_register m d v)
    with-register-set d v = map-where (λ x. if nat_eq x.number m.number then with_register x d v else x) (λ x. if nat_eq x.number m.number then with_register m d v else x) (λ x. m.number ≡ x.number → x ≡ m)
        (λ x is. elim (cases_eq x.number m.number) as (λ _. (if nat_eq x.number m.number then with_register x d v else x) ≡ (if nat_eq x.number m.number then with_register m d v else x)) [
          | inl e ↦ ap (λ y. if nat_eq x.number m.number then with_register y d v else x) (is (sym e))
          | inr other ↦ cond-false (nat_eq x.number m.number) (with_register x d v) x (ne_eqb x.number m.number other)
              ∙ sym (cond-false (nat_eq x.number m.number) (with_register m d v) x (ne_eqb x.number m.number other))
        ]) ms only

-- if the mutator is alone, it is the one that is replaced
pub with-alone : (m m' : MutatorState) → m'.number ≡ m.number → with_mutator (m ∷ []) m' ≡ m' ∷ []
with-alone m m' same = ap (λ x. x ∷ []) (cond-true (nat_eq m.number m'.number) m' m (eq-eqb m.number m'.number (sym same)))
