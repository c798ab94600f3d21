-- Elements of lists, and the states of mutators by their numbers.
use Rattle.std.proofs.Common.{◌≡◌, ◌≢◌, refl, sym, ◌∙◌, ap, subst, ℕ, zero, suc, ◌<◌, ◌⊎◌, inl, inr, arith, List, [], ◌∷◌, ◌++◌, length, map, nat_eq, eq-eqb}
use Rattle.std.specs.Prelude.{if◌then◌else◌}
use Rattle.std.specs.List.{Contains, Any, AllByRecursion}
use Rattle.std.proofs.lemmas.Bool.{cases_eq, cond-true, cond-false, ne_eqb}
use Rattle.object_model.specs.Graphs.{MutatorState, numbers_of, with_mutator, with_birth, add_birth, with_register, set_register_of}
use Rattle.mutator_core.specs.declared.state.Local.{Local}
use Rattle.mutator_core.specs.Machine.{mutator_of, first_local, first_local_of}

pub contains-cases : {X : Type 0} (y : X) (ys : List X) (x : X) → Contains (y ∷ ys) x → (x ≡ y) ⊎ Contains ys x
contains-cases y ys x (zero, within, is) = inl (sym is)
contains-cases y ys x (suc i, within, is) = inr (i, omega arith, is)

pub contains-here : {X : Type 0} (y : X) (ys : List X) → Contains (y ∷ ys) y
contains-here y ys = (0, omega arith, refl)

pub contains-there : {X : Type 0} (y : X) (ys : List X) (x : X) → Contains ys x → Contains (y ∷ ys) x
contains-there y ys x known = (suc known.0, (let within : known.0 < length ys = known.1 in omega arith), known.2)

pub contains-none : {X : Type 0} (x : X) → Contains [] x → ⊥
contains-none x known = let within : known.0 < 0 = known.1 in omega arith

-- the states after that of m changed
abbrev pub with_local : (ℕ → Local) → ℕ → Local → ℕ → Local
with_local locals m l k = if nat_eq k m then l else locals k

-- a property of the new state and of the states of the others
pub local-cases : (P : ℕ → Local → Type 0) (locals : ℕ → Local) (m : ℕ) (l : Local) (k : ℕ) → (k ≡ m → P m l) → (k ≢ m → P k (locals k)) → P k (with_local locals m l k)
local-cases P locals m l k own other = elim (cases_eq k m) as (λ _. P k (with_local locals m l k)) [
  | inl e ↦ subst (P k) (sym (cond-true (nat_eq k m) l (locals k) (eq-eqb k m e))) (subst (λ (q : ℕ). P q l) (sym e) (own e))
  | inr differ ↦ subst (P k) (sym (cond-false (nat_eq k m) l (locals k) (ne_eqb k m differ))) (other differ)
]

map-same : {X Y : Type 0} (f g : X → Y) → ((x : X) → f x ≡ g x) → (xs : List X) → map f xs ≡ map g xs
map-same f g same [] = refl
map-same f g same (x ∷ xs) = ap (λ y. y ∷ map f xs) (same x) ∙ ap (λ ys. g x ∷ ys) (map-same f g same xs)

map-map : {X Y Z : Type 0} (f : X → Y) (g : Y → Z) (xs : List X) → map g (map f xs) ≡ map (λ x. g (f x)) xs
map-map f g [] = refl
map-map f g (x ∷ xs) = ap (λ ys. g (f x) ∷ ys) (map-map f g xs)

-- the mutators after the state of one of them changed
pub mutators-with : (locals : ℕ → Local) (m : ℕ) (l : Local) (ks : List ℕ) → ((k : ℕ) → (locals k).number ≡ k) → l.number ≡ m
    → with_mutator (map (λ k. mutator_of (locals k)) ks) (mutator_of l) ≡ map (λ k. mutator_of (with_local locals m l k)) ks
mutators-with locals m l ks numbers own =
    map-map (λ k. mutator_of (locals k)) (λ x. if nat_eq x.number l.number then mutator_of l else x) ks
    ∙ map-same (λ k. if nat_eq (locals k).number l.number then mutator_of l else mutator_of (locals k)) (λ k. mutator_of (with_local locals m l k)) each ks
  where
    each : (k : ℕ) → (if nat_eq (locals k).number l.number then mutator_of l else mutator_of (locals k)) ≡ mutator_of (with_local locals m l k)
    each k = ap (λ n. if nat_eq n l.number then mutator_of l else mutator_of (locals k)) (numbers k)
        ∙ ap (λ n. if nat_eq k n then mutator_of l else mutator_of (locals k)) own
        ∙ elim (cases_eq k m) as (λ _. (if nat_eq k m then mutator_of l else mutator_of (locals k)) ≡ mutator_of (with_local locals m l k)) [
          | inl e ↦ cond-true (nat_eq k m) (mutator_of l) (mutator_of (locals k)) (eq-eqb k m e) ∙ sym (ap mutator_of (cond-true (nat_eq k m) l (locals k) (eq-eqb k m e)))
          | inr differ ↦ cond-false (nat_eq k m) (mutator_of l) (mutator_of (locals k)) (ne_eqb k m differ) ∙ sym (ap mutator_of (cond-false (nat_eq k m) l (locals k) (ne_eqb k m differ)))
        ]

-- one of them is one of the mutators
pub among : (locals : ℕ → Local) (ks : List ℕ) (m : ℕ) → Contains ks m → Contains (map (λ k. mutator_of (locals k)) ks) (mutator_of (locals m))
among locals [] m known = absurd (contains-none m known)
among locals (k ∷ ks) m known = elim (contains-cases k ks m known) as (λ _. Contains (map (λ q. mutator_of (locals q)) (k ∷ ks)) (mutator_of (locals m))) [
  | inl e ↦ subst (λ (q : ℕ). Contains (mutator_of (locals k) ∷ map (λ x. mutator_of (locals x)) ks) (mutator_of (locals q))) (sym e) (contains-here (mutator_of (locals k)) (map (λ x. mutator_of (locals x)) ks))
  | inr there ↦ contains-there (mutator_of (locals k)) (map (λ x. mutator_of (locals x)) ks) (mutator_of (locals m)) (among locals ks m there)
]

-- each mutator's state is that of its number
pub first-number : (ms : List MutatorState) (k : ℕ) → (first_local_of ms k).number ≡ k
first-number [] k = refl
first-number (m ∷ ms) k = elim (cases_eq k m.number) as (λ _. (if nat_eq k m.number then first_local m else first_local_of ms k).number ≡ k) [
  | inl e ↦ ap (λ l. l.number) (cond-true (nat_eq k m.number) (first_local m) (first_local_of ms k) (eq-eqb k m.number e)) ∙ sym e
  | inr other ↦ ap (λ l. l.number) (cond-false (nat_eq k m.number) (first_local m) (first_local_of ms k) (ne_eqb k m.number other)) ∙ first-number ms k
]

-- if number, births and registers of the changed state are the same, the mutators are the same
pub mutators-same : (locals : ℕ → Local) (m : ℕ) (l : Local) (ks : List ℕ) → mutator_of l ≡ mutator_of (locals m) → map (λ k. mutator_of (with_local locals m l k)) ks ≡ map (λ k. mutator_of (locals k)) ks
mutators-same locals m l ks same = map-same (λ k. mutator_of (with_local locals m l k)) (λ k. mutator_of (locals k))
    (λ k. local-cases (λ q x. mutator_of x ≡ mutator_of (locals q)) locals m l k (λ e. same) (λ other. refl)) ks

-- a mutator allocates one more object, and its register d gets v
module _ (m d v : ℕ) where
  abbrev counted : MutatorState → MutatorState
  counted x = if nat_eq x.number m then with_birth x else x

  abbrev given : MutatorState → MutatorState
  given x = if nat_eq x.number m then with_register x d v else x

  birth-own : (x : MutatorState) → x.number ≡ m → given (counted x) ≡ with_register (with_birth x) d v
  birth-own x is = ap given (cond-true (nat_eq x.number m) (with_birth x) x (eq-eqb x.number m is))
      ∙ cond-true (nat_eq x.number m) (with_register (with_birth x) d v) (with_birth x) (eq-eqb x.number m is)

  birth-other : (x : MutatorState) → x.number ≢ m → given (counted x) ≡ x
  birth-other x differ = ap given (cond-false (nat_eq x.number m) (with_birth x) x (ne_eqb x.number m differ)) ∙ cond-false (nat_eq x.number m) (with_register x d v) x (ne_eqb x.number m differ)

  pub mutators-with_birth : (locals : ℕ → Local) (l : Local) (ks : List ℕ) → ((k : ℕ) → (locals k).number ≡ k) → mutator_of l ≡ with_register (with_birth (mutator_of (locals m))) d v
      → set_register_of (add_birth (map (λ k. mutator_of (locals k)) ks) m) m d v ≡ map (λ k. mutator_of (with_local locals m l k)) ks
  mutators-with_birth locals l ks numbers same =
      ap (map given) (map-map (λ k. mutator_of (locals k)) counted ks) ∙ map-map (λ k. counted (mutator_of (locals k))) given ks
      ∙ map-same (λ k. given (counted (mutator_of (locals k)))) (λ k. mutator_of (with_local locals m l k))
      (λ k. local-cases (λ q x. given (counted (mutator_of (locals q))) ≡ mutator_of x) locals m l k
      (λ e. birth-own (mutator_of (locals m)) (numbers m) ∙ sym same)
      (λ other. birth-other (mutator_of (locals k)) (λ e. other (sym (numbers k) ∙ e)))) ks

-- the one element with the property, in a list in two parts
pub any-cases : {X : Type 0} {P : X → Type 0} (x : X) (xs : List X) → Any P (x ∷ xs) → P x ⊎ Any P xs
any-cases {P = P} x xs (zero, y, within, is, has) = inl (subst P (sym is) has)
any-cases x xs (suc i, y, within, is, has) = inr (i, y, omega arith, is, has)

pub any-here : {X : Type 0} (P : X → Type 0) (x : X) (xs : List X) → P x → Any P (x ∷ xs)
any-here P x xs has = (0, x, omega arith, refl, has)

pub any-there : {X : Type 0} (P : X → Type 0) (x : X) (xs : List X) → Any P xs → Any P (x ∷ xs)
any-there P x xs any = (suc any.0, any.1, (let there : any.0 < length xs = any.2 in omega arith), any.3, any.4)

pub any-left : {X : Type 0} (P : X → Type 0) (xs ys : List X) → Any P xs → Any P (xs ++ ys)
any-left P [] ys any = absurd (let within : any.0 < 0 = any.2 in omega arith)
any-left P (x ∷ xs) ys any = elim (any-cases {P = P} x xs any) as (λ _. Any P (x ∷ (xs ++ ys))) [ inl here ↦ any-here P x (xs ++ ys) here | inr more ↦ any-there P x (xs ++ ys) (any-left P xs ys more) ]

pub any-right : {X : Type 0} (P : X → Type 0) (xs ys : List X) → Any P ys → Any P (xs ++ ys)
any-right P [] ys any = any
any-right P (x ∷ xs) ys any = any-there P x (xs ++ ys) (any-right P xs ys any)

pub any-split : {X : Type 0} (P : X → Type 0) (xs ys : List X) → Any P (xs ++ ys) → Any P xs ⊎ Any P ys
any-split P [] ys any = inr any
any-split P (x ∷ xs) ys any = elim (any-cases {P = P} x (xs ++ ys) any) as (λ _. Any P (x ∷ xs) ⊎ Any P ys) [
  | inl here ↦ inl (any-here P x xs here)
  | inr more ↦ elim (any-split P xs ys more) as (λ _. Any P (x ∷ xs) ⊎ Any P ys) [ inl left ↦ inl (any-there P x xs left) | inr right ↦ inr right ]
]

pub all-append : {X : Type 0} (P : X → Type 0) (xs ys : List X) → AllByRecursion P xs → AllByRecursion P ys → AllByRecursion P (xs ++ ys)
all-append P [] ys left right = right
all-append P (x ∷ xs) ys left right = (left.0, all-append P xs ys left.1 right)

-- the mutators are listed by their numbers
pub mutators-listed : (locals : ℕ → Local) (ks : List ℕ) → ((k : ℕ) → (locals k).number ≡ k) → numbers_of (map (λ k. mutator_of (locals k)) ks) ≡ ks
mutators-listed locals [] numbers = refl
mutators-listed locals (k ∷ ks) numbers = ap (λ n. n ∷ numbers_of (map (λ q. mutator_of (locals q)) ks)) (numbers k) ∙ ap (λ ns. k ∷ ns) (mutators-listed locals ks numbers)
