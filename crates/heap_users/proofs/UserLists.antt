-- What holds of the mutators that a loop has passed.
use Rattle.std.proofs.Common.{◌≡◌, refl, sym, ◌∙◌, ap, subst, ℕ, zero, suc, ◌+◌, ◌<◌, ◌≤◌, inl, inr, arith, List, [], ◌∷◌, length, map, take, get_or}
use Rattle.std.specs.Prelude.{Some, None, slice_get, slice_index}
use Rattle.std.specs.List.{AllByRecursion, Any}
use Rattle.std.proofs.lemmas.Bool.{cases_eq, cases_lt}
use Rattle.object_model.specs.Graphs.{MutatorState, AreDifferent, numbers_of}
use Rattle.mutator_calls.specs.declared.need.Mutator.{Mutator}
use Rattle.heap_users.specs.Users.{mutator_state}
use Rattle.block_regions.proofs.Lists.{get-some, get-below, one-element}

-- P of the mutators at places below n
abbrev pub EachBelow : (MutatorState → Type 0) → List Mutator → ℕ → Type 0
EachBelow P ms n = (k : ℕ) (m : Mutator) → k < n → slice_get ms k ≡ Some m → P (mutator_state m)

-- P of none of them
abbrev pub NoneBelow : (MutatorState → Type 0) → List Mutator → ℕ → Type 0
NoneBelow P ms n = EachBelow (λ m. P m → ⊥) ms n

-- the mutator that a place below the length reads
pub get-read : (ms : List Mutator) (k : ℕ) (d : Mutator) → k < length ms → slice_get ms k ≡ Some (get_or ms k d)
get-read [] k d below = absurd (omega arith)
get-read (m ∷ ms) zero d below = refl
get-read (m ∷ ms) (suc k) d below = get-read ms k d (let less : suc k < suc (length ms) = below in omega arith)

-- what stands for one past the end
abbrev pub nobody : Mutator
nobody = record { number = 0; births = 0; registers = [] }

pub each-more : (P : MutatorState → Type 0) (ms : List Mutator) (n : ℕ) (m : Mutator) → EachBelow P ms n → slice_get ms n ≡ Some m → P (mutator_state m) → EachBelow P ms (n + 1)
each-more P ms n m each here holds k x below is = elim (cases_eq k n) as (λ _. P (mutator_state x)) [
  | inl same ↦ subst (λ (y : Mutator). P (mutator_state y)) (one-element (slice_get ms n) m x here (ap (slice_get ms) (sym same) ∙ is)) holds
  | inr other ↦ each k x (omega arith) is
]

each-index : (P : MutatorState → Type 0) (ms : List Mutator) → ((k : ℕ) (m : Mutator) → slice_get ms k ≡ Some m → P (mutator_state m)) → AllByRecursion P (map mutator_state ms)
each-index P [] each = tt
each-index P (m ∷ ms) each = (each 0 m refl, each-index P ms (λ k. each (suc k)))

pub each-all : (P : MutatorState → Type 0) (ms : List Mutator) (n : ℕ) → length ms ≤ n → EachBelow P ms n → AllByRecursion P (map mutator_state ms)
each-all P ms n past each = each-index P ms (λ k m is. each k m (let below : k < length ms = get-below ms k m is in omega arith) is)

pub all-each : (P : MutatorState → Type 0) (ms : List Mutator) (k : ℕ) (m : Mutator) → AllByRecursion P (map mutator_state ms) → slice_get ms k ≡ Some m → P (mutator_state m)
all-each P [] k m all is = let wrong : None ≡ Some m = is in cc
all-each P (x ∷ ms) zero m all is = let same : x ≡ m = one-element (Some x) x m refl is in subst (λ (y : Mutator). P (mutator_state y)) same all.0
all-each P (x ∷ ms) (suc k) m all is = all-each P ms k m all.1 is

pub any-at : (P : MutatorState → Type 0) (ms : List Mutator) (k : ℕ) (m : Mutator) → slice_get ms k ≡ Some m → P (mutator_state m) → Any P (map mutator_state ms)
any-at P [] k m is holds = let wrong : None ≡ Some m = is in cc
any-at P (x ∷ ms) zero m is holds = (0, mutator_state m, omega arith, ap mutator_state (one-element (Some x) x m refl is), holds)
any-at P (x ∷ ms) (suc k) m is holds = let rest = any-at P ms k m is holds in
    (suc rest.0, rest.1, (let less : rest.0 < length (map mutator_state ms) = rest.2 in omega arith), rest.3, rest.4)

pub any-get : (P : MutatorState → Type 0) (ms : List Mutator) → Any P (map mutator_state ms) → (k : ℕ) × (m : Mutator) × (slice_get ms k ≡ Some m) × P (mutator_state m)
any-get P [] any = absurd (let there : any.0 < 0 = any.2 in omega arith)
any-get P (x ∷ ms) (zero, y, within, is, holds) = (0, x, refl, subst P (sym is) holds)
any-get P (x ∷ ms) (suc k, y, within, is, holds) =
    let rest = any-get P ms (k, y, (let w : suc k < suc (length (map mutator_state ms)) = within in omega arith), is, holds) in
    (suc rest.0, rest.1, rest.2, rest.3)

pub none-any : (P : MutatorState → Type 0) (ms : List Mutator) (n : ℕ) → length ms ≤ n → NoneBelow P ms n → Any P (map mutator_state ms) → ⊥
none-any P ms n past none any =
    let there = any-get P ms any in
    none there.0 there.1 (let below : there.0 < length ms = get-below ms there.0 there.1 there.2 in omega arith) there.2 there.3

get-take : {A : Type 0} (xs : List A) (n k : ℕ) → k < n → slice_get (take n xs) k ≡ slice_get xs k
get-take [] zero k below = refl
get-take [] (suc n) k below = refl
get-take (x ∷ xs) zero k below = absurd (omega arith)
get-take (x ∷ xs) (suc n) zero below = refl
get-take (x ∷ xs) (suc n) (suc k) below = get-take xs n k (omega arith)

take-below : {A : Type 0} (xs : List A) (n k : ℕ) (x : A) → slice_get (take n xs) k ≡ Some x → k < n
take-below [] zero k x is = let wrong : None ≡ Some x = is in cc
take-below [] (suc n) k x is = let wrong : None ≡ Some x = is in cc
take-below (y ∷ xs) zero k x is = let wrong : None ≡ Some x = is in cc
take-below (y ∷ xs) (suc n) zero x is = omega arith
take-below (y ∷ xs) (suc n) (suc k) x is = let less : k < n = take-below xs n k x is in omega arith

number-at : (ms : List Mutator) (k : ℕ) (m : Mutator) → slice_get ms k ≡ Some m → slice_index (numbers_of (map mutator_state ms)) k ≡ m.number
number-at [] k m is = let wrong : None ≡ Some m = is in cc
number-at (x ∷ ms) zero m is = ap (λ (y : Mutator). y.number) (one-element (Some x) x m refl is)
number-at (x ∷ ms) (suc k) m is = number-at ms k m is

numbers-length : (ms : List Mutator) → length (numbers_of (map mutator_state ms)) ≡ length ms
numbers-length [] = refl
numbers-length (m ∷ ms) = ap suc (numbers-length ms)

-- one of the first n mutators has the number
abbrev pub IsTaken : List Mutator → ℕ → ℕ → Type 0
IsTaken ms n number = Any (λ m. m.number ≡ number) (map mutator_state (take n ms))

taken-at : (ms : List Mutator) (n number k : ℕ) (m : Mutator) → k < n → slice_get ms k ≡ Some m → m.number ≡ number → IsTaken ms n number
taken-at ms n number k m below is same = any-at (λ m. m.number ≡ number) (take n ms) k m (get-take ms n k below ∙ is) same

-- no number of the first n mutators is one of an earlier one
abbrev pub AreNewBelow : List Mutator → ℕ → Type 0
AreNewBelow ms n = (k : ℕ) (m : Mutator) → k < n → slice_get ms k ≡ Some m → IsTaken ms k m.number → ⊥

pub new-more : (ms : List Mutator) (n : ℕ) (m : Mutator) → AreNewBelow ms n → slice_get ms n ≡ Some m → (IsTaken ms n m.number → ⊥) → AreNewBelow ms (n + 1)
new-more ms n m each here new k x below is = elim (cases_eq k n) as (λ _. IsTaken ms k x.number → ⊥) [
  | inl same ↦ (let one : m ≡ x = one-element (slice_get ms n) m x here (ap (slice_get ms) (sym same) ∙ is) in
      λ taken. new (subst (λ (j : ℕ). IsTaken ms j m.number) same (subst (λ (y : Mutator). IsTaken ms k y.number) (sym one) taken)))
  | inr other ↦ each k x (omega arith) is
]

-- then the numbers are different
pub new-different : (ms : List Mutator) (n : ℕ) → length ms ≤ n → AreNewBelow ms n → AreDifferent (numbers_of (map mutator_state ms))
new-different ms n past new i j there_i there_j same =
    let many : length (numbers_of (map mutator_state ms)) ≡ length ms = numbers-length ms in
    let x = get-some ms i (omega arith) in
    let y = get-some ms j (omega arith) in
    let numbers : x.0.number ≡ y.0.number = sym (number-at ms i x.0 x.1) ∙ same ∙ number-at ms j y.0 y.1 in
    elim (cases_eq i j) as (λ _. i ≡ j) [
      | inl equal ↦ equal
      | inr other ↦ elim (cases_lt i j) as (λ _. i ≡ j) [
        | inl less ↦ absurd (new j y.0 (omega arith) y.1 (taken-at ms j y.0.number i x.0 less x.1 numbers))
        | inr more ↦ absurd (new i x.0 (omega arith) x.1 (taken-at ms i x.0.number j y.0 (omega arith) y.1 (sym numbers)))
      ]
    ]

-- and a number that is taken is not different
pub taken-same : (ms : List Mutator) (n : ℕ) (m : Mutator) → slice_get ms n ≡ Some m → IsTaken ms n m.number → AreDifferent (numbers_of (map mutator_state ms)) → ⊥
taken-same ms n m is taken differ =
    let there = any-get (λ x. x.number ≡ m.number) (take n ms) taken in
    let below : there.0 < n = take-below ms n there.0 there.1 there.2 in
    let here : slice_get ms there.0 ≡ Some there.1 = sym (get-take ms n there.0 below) ∙ there.2 in
    let inside : n < length ms = get-below ms n m is in
    let many : length (numbers_of (map mutator_state ms)) ≡ length ms = numbers-length ms in
    let same : there.0 ≡ n = differ there.0 n (omega arith) (omega arith) (number-at ms there.0 there.1 here ∙ there.3 ∙ sym (number-at ms n m is)) in
    omega arith
