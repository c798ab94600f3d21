-- A list with one more element, sums, and the entries of one mutator.
use Rattle.std.proofs.Common.{◌≡◌, ◌≢◌, refl, ◌∙◌, ap, ℕ, zero, suc, ◌+◌, ◌≤◌, ◌⊎◌, inl, inr, arith, List, [], ◌∷◌, ◌++◌, length, map}
use Rattle.std.specs.Prelude.{Some, None, slice_get, sum_by}
use Rattle.std.specs.List.{AllByRecursion}
use Rattle.std.proofs.lemmas.Bool.{ne_eqb}
use Rattle.std.proofs.lemmas.List.Sums.{sum_by-cons}
use Rattle.block_regions.proofs.Lists.{one-element}
use Rattle.ideal_heap.specs.declared.command.Command.{Command}
use Rattle.ideal_heap.specs.declared.reply.Reply.{Reply}
use Rattle.ideal_heap.specs.Runs.{Entry, entry, of_mutator, commands_of, replies_of}
use Rattle.ideal_heap.proofs.OrderLemmas.{of_mutator-all}
use Rattle.mutator_calls.specs.Effects.{Answered}

pub push-old : {A : Type 0} (xs : List A) (y : A) (k : ℕ) (x : A) → slice_get xs k ≡ Some x → slice_get (xs ++ y ∷ []) k ≡ Some x
push-old [] y k x is = let wrong : None ≡ Some x = is in cc
push-old (z ∷ xs) y zero x is = is
push-old (z ∷ xs) y (suc k) x is = push-old xs y k x is

pub push-new : {A : Type 0} (xs : List A) (y : A) → slice_get (xs ++ y ∷ []) (length xs) ≡ Some y
push-new [] y = refl
push-new (z ∷ xs) y = push-new xs y

pub push-cases : {A : Type 0} (xs : List A) (y : A) (k : ℕ) (x : A) → slice_get (xs ++ y ∷ []) k ≡ Some x
    → ((k ≡ length xs) × (x ≡ y)) ⊎ (slice_get xs k ≡ Some x)
push-cases [] y zero x is = inl (refl, one-element (Some y) x y is refl)
push-cases [] y (suc k) x is = let wrong : None ≡ Some x = is in cc
push-cases (z ∷ xs) y zero x is = inr is
push-cases {A} (z ∷ xs) y (suc k) x is = elim (push-cases xs y k x is) as (λ _. ((suc k ≡ suc (length xs)) × (x ≡ y)) ⊎ (slice_get xs k ≡ Some x)) [
  | inl last ↦ inl (ap suc last.0, last.1)
  | inr before ↦ inr before
]

-- the entries of one mutator's answers
abbrev pub entries-of : ℕ → List Answered → List Entry
entries-of n es = map (λ e. entry n e.command e.reply) es

own-entries : (n : ℕ) (es : List Answered) → AllByRecursion (λ e. e.mutator ≡ n) (entries-of n es)
own-entries n [] = tt
own-entries n (e ∷ es) = (refl, own-entries n es)

commands-mapped : (n : ℕ) (es : List Answered) → map (λ (e : Entry). e.command) (entries-of n es) ≡ map (λ e. e.command) es
commands-mapped n [] = refl
commands-mapped n (e ∷ es) = ap (λ (cs : List Command). e.command ∷ cs) (commands-mapped n es)

replies-mapped : (n : ℕ) (es : List Answered) → map (λ (e : Entry). e.reply) (entries-of n es) ≡ map (λ e. e.reply) es
replies-mapped n [] = refl
replies-mapped n (e ∷ es) = ap (λ (rs : List Reply). e.reply ∷ rs) (replies-mapped n es)

pub commands-own : (n : ℕ) (es : List Answered) → commands_of n (entries-of n es) ≡ map (λ e. e.command) es
commands-own n es = ap (map (λ (e : Entry). e.command)) (of_mutator-all n (entries-of n es) (own-entries n es)) ∙ commands-mapped n es

pub replies-own : (n : ℕ) (es : List Answered) → replies_of n (entries-of n es) ≡ map (λ e. e.reply) es
replies-own n es = ap (map (λ (e : Entry). e.reply)) (of_mutator-all n (entries-of n es) (own-entries n es)) ∙ replies-mapped n es

pub entries-other : (k n : ℕ) (es : List Answered) → n ≢ k → of_mutator k (entries-of n es) ≡ []
entries-other k n [] other = refl
entries-other k n (e ∷ es) other = rw (ne_eqb n k other) (entries-other k n es other)

-- what holds of the number of a mutator holds of its entries
pub entries-all : (P : ℕ → Type 0) (n : ℕ) (es : List Answered) → P n → AllByRecursion (λ e. P e.mutator) (entries-of n es)
entries-all P n [] holds = tt
entries-all P n (e ∷ es) holds = (holds, entries-all P n es holds)

pub all-weaker : {A : Type 0} (P Q : A → Type 0) → ((x : A) → P x → Q x) → (xs : List A) → AllByRecursion P xs → AllByRecursion Q xs
all-weaker P Q weaker [] all = tt
all-weaker P Q weaker (x ∷ xs) all = (weaker x all.0, all-weaker P Q weaker xs all.1)

-- a sum that grows at each place grows
pub sum-grows : {A : Type 0} (f : A → ℕ) (xs ys : List A) → length ys ≡ length xs
    → ((k : ℕ) (x y : A) → slice_get xs k ≡ Some x → slice_get ys k ≡ Some y → f x ≤ f y) → sum_by f xs ≤ sum_by f ys
sum-grows f [] [] same each = omega arith
sum-grows f [] (y ∷ ys) same each = absurd (let n = length ys in omega arith)
sum-grows f (x ∷ xs) [] same each = absurd (let n = length xs in omega arith)
sum-grows f (x ∷ xs) (y ∷ ys) same each =
    let many : length ys ≡ length xs = (let e : suc (length ys) ≡ suc (length xs) = same in omega arith) in
    let a : sum_by f (x ∷ xs) ≡ f x + sum_by f xs = sum_by-cons f x xs in
    let b : sum_by f (y ∷ ys) ≡ f y + sum_by f ys = sum_by-cons f y ys in
    let here : f x ≤ f y = each 0 x y refl refl in
    let rest : sum_by f xs ≤ sum_by f ys = sum-grows f xs ys many (λ k. each (suc k)) in
    omega arith

-- a sum of numbers of at most 1
pub sum-most : {A : Type 0} (f : A → ℕ) → ((x : A) → f x ≤ 1) → (xs : List A) → sum_by f xs ≤ length xs
sum-most f most [] = omega arith
sum-most f most (x ∷ xs) = omega (arith, sum_by-cons f x xs, most x, sum-most f most xs)

-- of which one is 0
pub sum-less : {A : Type 0} (f : A → ℕ) → ((x : A) → f x ≤ 1) → (xs : List A) (k : ℕ) (x : A) → slice_get xs k ≡ Some x → f x ≡ 0
    → sum_by f xs + 1 ≤ length xs
sum-less f most [] k x is none = let wrong : None ≡ Some x = is in cc
sum-less f most (y ∷ xs) zero x is none =
    let here : f y ≡ 0 = ap f (one-element (Some y) y x refl is) ∙ none in
    omega (arith, sum_by-cons f y xs, here, sum-most f most xs)
sum-less f most (y ∷ xs) (suc k) x is none = omega (arith, sum_by-cons f y xs, most y, sum-less f most xs k x is none)
