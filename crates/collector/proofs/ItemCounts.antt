-- Counts of items and their tokens: of lists put together, of packets in another order, and of objects alone.
use Rattle.std.proofs.Common.{◌≡◌, refl, sym, ◌∙◌, ap, subst, ℕ, ◌+◌, ◌<◌, inl, inr, arith, Bool, true, false, ◌&&◌, nat_eq, List, [], ◌∷◌, ◌++◌, map, length}
use Rattle.std.specs.Prelude.{All, count_by, sum_by}
use Rattle.std.specs.List.Sorted.{IsPermutation}
use Rattle.std.proofs.lemmas.Bool.{cases_eq, eq-eqb, ne_eqb}
use Rattle.std.proofs.lemmas.List.Elements.{All-nil, All-cons, All-head, All-tail, All-append, All-weaker}
use Rattle.std.proofs.lemmas.List.Sorted.{All-permutation, sum_by-IsPermutation}
use Rattle.std.proofs.lemmas.List.Sums.{sum_by-cons}
use Rattle.work_packets.specs.declared.packet.Packet.{Packet}
use Rattle.trace_core.specs.Setups.{Setup}
use Rattle.trace_core.specs.Views.{View, hits}
use Rattle.object_model.specs.Times.{one_if, times}
use Rattle.plain_tracer.specs.TokenRights.{IsGrey, copied_in, to_scan_in}
use Rattle.plain_tracer.specs.declared.tokens.Grey.{Grey}
use Rattle.trace_core.proofs.CountedRights.{count-cons, count-append, hits-cons, times-cons}
use Rattle.collector.specs.declared.item.Item.{Item}
use Rattle.collector.specs.declared.item.Item.TheVariants.{Register, Global, Object}
use Rattle.collector.specs.Items.{is_register, is_global, is_object, registers, globals, objects, items_of, tokens_of, IsObject}

-- the token is of the object at x
abbrev pub is_of : ℕ → Grey → Bool
is_of x grey = nat_eq grey.object x

-- parts of a list
module _ {A : Type 0} (P : A → Type 0) where
  pub all-left : (xs ys : List A) → All P (xs ++ ys) → All P xs
  all-left [] ys all = All-nil P
  all-left (x ∷ xs) ys all = All-cons P x xs (All-head P x (xs ++ ys) all) (all-left xs ys (All-tail P x (xs ++ ys) all))

  pub all-right : (xs ys : List A) → All P (xs ++ ys) → All P ys
  all-right [] ys all = all
  all-right (x ∷ xs) ys all = all-right xs ys (All-tail P x (xs ++ ys) all)

  pub all-both : (Q R : A → Type 0) → ((x : A) → P x → Q x → R x) → (xs : List A) → All P xs → All Q xs → All R xs
  all-both Q R both [] ps qs = All-nil R
  all-both Q R both (x ∷ xs) ps qs = All-cons R x xs (both x (All-head P x xs ps) (All-head Q x xs qs)) (all-both Q R both xs (All-tail P x xs ps) (All-tail Q x xs qs))

pub all-of-map : {A B : Type 0} (P : B → Type 0) (f : A → B) (xs : List A) → All P (map f xs) → All (λ x. P (f x)) xs
all-of-map P f [] all = All-nil (λ x. P (f x))
all-of-map P f (x ∷ xs) all = All-cons (λ x. P (f x)) x xs (All-head P (f x) (map f xs) all) (all-of-map P f xs (All-tail P (f x) (map f xs) all))

-- lists put together
pub registers-append : (i : ℕ) (xs ys : List Item) → registers i (xs ++ ys) ≡ registers i xs + registers i ys
registers-append i xs ys = count-append (is_register i) xs ys

pub globals-append : (g : ℕ) (xs ys : List Item) → globals g (xs ++ ys) ≡ globals g xs + globals g ys
globals-append g xs ys = count-append (is_global g) xs ys

pub objects-append : (x : ℕ) (xs ys : List Item) → objects x (xs ++ ys) ≡ objects x xs + objects x ys
objects-append x xs ys = count-append (is_object x) xs ys

pub tokens-append : (xs ys : List Item) → tokens_of (xs ++ ys) ≡ tokens_of xs ++ tokens_of ys
tokens-append [] ys = refl
tokens-append (Register i ∷ xs) ys = tokens-append xs ys
tokens-append (Global root ∷ xs) ys = tokens-append xs ys
tokens-append (Object grey ∷ xs) ys = ap (λ l. grey ∷ l) (tokens-append xs ys)

-- what is not counted may be left out
skipped : (n m : ℕ) → n ≡ 0 + m → n ≡ m
skipped n m e = omega arith

-- objects alone
pub no-registers : (items : List Item) → All IsObject items → (i : ℕ) → registers i items ≡ 0
no-registers [] all i = refl
no-registers (Register j ∷ items) all i = absurd (All-head IsObject (Register j) items all)
no-registers (Global root ∷ items) all i = absurd (All-head IsObject (Global root) items all)
no-registers (Object grey ∷ items) all i = skipped (registers i (Object grey ∷ items)) (registers i items) (count-cons (is_register i) (Object grey) items) ∙ no-registers items (All-tail IsObject (Object grey) items all) i

pub no-globals : (items : List Item) → All IsObject items → (g : ℕ) → globals g items ≡ 0
no-globals [] all g = refl
no-globals (Register j ∷ items) all g = absurd (All-head IsObject (Register j) items all)
no-globals (Global root ∷ items) all g = absurd (All-head IsObject (Global root) items all)
no-globals (Object grey ∷ items) all g = skipped (globals g (Object grey ∷ items)) (globals g items) (count-cons (is_global g) (Object grey) items) ∙ no-globals items (All-tail IsObject (Object grey) items all) g

pub length-tokens : (items : List Item) → All IsObject items → length (tokens_of items) ≡ length items
length-tokens [] all = refl
length-tokens (Register j ∷ items) all = absurd (All-head IsObject (Register j) items all)
length-tokens (Global root ∷ items) all = absurd (All-head IsObject (Global root) items all)
length-tokens (Object grey ∷ items) all = let rest : length (tokens_of items) ≡ length items = length-tokens items (All-tail IsObject (Object grey) items all) in omega arith

-- objects by their tokens
pub objects-tokens : (x : ℕ) (items : List Item) → objects x items ≡ count_by (is_of x) (tokens_of items)
objects-tokens x [] = refl
objects-tokens x (Register j ∷ items) = skipped (objects x (Register j ∷ items)) (objects x items) (count-cons (is_object x) (Register j) items) ∙ objects-tokens x items
objects-tokens x (Global root ∷ items) = skipped (objects x (Global root ∷ items)) (objects x items) (count-cons (is_object x) (Global root) items) ∙ objects-tokens x items
objects-tokens x (Object grey ∷ items) = count-cons (is_object x) (Object grey) items
    ∙ ap (λ n. one_if (is_of x grey) + n) (objects-tokens x items) ∙ sym (count-cons (is_of x) grey (tokens_of items))

and-true : (b : Bool) → b && true ≡ b
and-true true = refl
and-true false = refl

pub eq-either : (x y : ℕ) → nat_eq x y ≡ nat_eq y x
eq-either x y = elim (cases_eq x y) as (λ _. nat_eq x y ≡ nat_eq y x) [
  | inl e ↦ eq-eqb x y e ∙ sym (eq-eqb y x (sym e))
  | inr ne ↦ ne_eqb x y ne ∙ sym (ne_eqb y x (λ e. ne (sym e)))
]

pub scans-of : (x : ℕ) (pushed : List Grey) → hits x 0 (to_scan_in pushed) ≡ count_by (is_of x) pushed
scans-of x [] = refl
scans-of x (grey ∷ pushed) = hits-cons grey.object 0 (to_scan_in pushed) x 0
    ∙ ap (λ b. one_if b + hits x 0 (to_scan_in pushed)) (and-true (is_of x grey))
    ∙ ap (λ n. one_if (is_of x grey) + n) (scans-of x pushed) ∙ sym (count-cons (is_of x) grey pushed)

pub copies-of : (x : ℕ) (pushed : List Grey) → times x (copied_in pushed) ≡ count_by (is_of x) pushed
copies-of x [] = refl
copies-of x (grey ∷ pushed) = times-cons grey.object (copied_in pushed) x
    ∙ ap (λ b. one_if b + times x (copied_in pushed)) (eq-either x grey.object)
    ∙ ap (λ n. one_if (is_of x grey) + n) (copies-of x pushed) ∙ sym (count-cons (is_of x) grey pushed)

-- items whose tokens were pushed, in another order
module _ (pushed : List Grey) (items : List Item) (tokens : IsPermutation pushed (tokens_of items)) where
  pub objects-pushed : (x : ℕ) → objects x items ≡ count_by (is_of x) pushed
  objects-pushed x = objects-tokens x items ∙ sum_by-IsPermutation (λ grey. one_if (is_of x grey)) pushed (tokens_of items) tokens

-- each token's object is one of the items
pub tokens-there : (items : List Item) → All (λ grey. 0 < objects grey.object items) (tokens_of items)
tokens-there [] = All-nil (λ grey. 0 < objects grey.object [])
tokens-there (Register j ∷ items) = All-weaker (λ grey. 0 < objects grey.object items) (λ grey. 0 < objects grey.object (Register j ∷ items))
    (λ grey some. subst (λ n. 0 < n) (sym (skipped (objects grey.object (Register j ∷ items)) (objects grey.object items) (count-cons (is_object grey.object) (Register j) items))) some) (tokens_of items) (tokens-there items)
tokens-there (Global root ∷ items) = All-weaker (λ grey. 0 < objects grey.object items) (λ grey. 0 < objects grey.object (Global root ∷ items))
    (λ grey some. subst (λ n. 0 < n) (sym (skipped (objects grey.object (Global root ∷ items)) (objects grey.object items) (count-cons (is_object grey.object) (Global root) items))) some) (tokens_of items) (tokens-there items)
tokens-there (Object first ∷ items) = All-cons (λ grey. 0 < objects grey.object (Object first ∷ items)) first (tokens_of items)
    (let d = count-cons (is_object first.object) (Object first) items in
    let one : one_if (is_object first.object (Object first)) ≡ 1 = ap one_if (eq-eqb first.object first.object refl) in omega arith)
    (All-weaker (λ grey. 0 < objects grey.object items) (λ grey. 0 < objects grey.object (Object first ∷ items))
    (λ grey some. let d = count-cons (is_object grey.object) (Object first) items in omega arith) (tokens_of items) (tokens-there items))

-- The two lists have as many items for each object, global and root, and tokens of which the same can be said.
pub record SameItems (xs ys : List Item) : Type 0 where
  pub of_roots : (i : ℕ) → registers i ys ≡ registers i xs
  pub of_globals : (g : ℕ) → globals g ys ≡ globals g xs
  pub of_objects : (x : ℕ) → objects x ys ≡ objects x xs
  pub tokens : (p : Setup) (v : View) → All (IsGrey p v) (tokens_of xs) → All (IsGrey p v) (tokens_of ys)

count-packets : (f : Item → Bool) (ps : List (Packet Item)) → count_by f (items_of ps) ≡ sum_by (λ p. count_by f p.items.items) ps
count-packets f [] = refl
count-packets f (p ∷ ps) = count-append f p.items.items (items_of ps) ∙ ap (λ n. count_by f p.items.items + n) (count-packets f ps)
    ∙ sym (sum_by-cons (λ p. count_by f p.items.items) p ps)

module _ (P : Grey → Type 0) where
  abbrev AllOf : Packet Item → Type 0
  AllOf p = All P (tokens_of p.items.items)

  by-packets : (ps : List (Packet Item)) → All P (tokens_of (items_of ps)) → All AllOf ps
  by-packets [] all = All-nil AllOf
  by-packets (p ∷ ps) all =
      let parts : All P (tokens_of p.items.items ++ tokens_of (items_of ps)) = subst (All P) (tokens-append p.items.items (items_of ps)) all in
      All-cons AllOf p ps (all-left P (tokens_of p.items.items) (tokens_of (items_of ps)) parts)
      (by-packets ps (all-right P (tokens_of p.items.items) (tokens_of (items_of ps)) parts))

  from-packets : (ps : List (Packet Item)) → All AllOf ps → All P (tokens_of (items_of ps))
  from-packets [] all = All-nil P
  from-packets (p ∷ ps) all = subst (All P) (sym (tokens-append p.items.items (items_of ps)))
      (All-append P (tokens_of p.items.items) (tokens_of (items_of ps)) (All-head AllOf p ps all) (from-packets ps (All-tail AllOf p ps all)))

-- packets in another order have the same items
module _ (ps qs : List (Packet Item)) (order : IsPermutation ps qs) where
  count-same : (f : Item → Bool) → count_by f (items_of qs) ≡ count_by f (items_of ps)
  count-same f = count-packets f qs ∙ sum_by-IsPermutation (λ p. count_by f p.items.items) ps qs order ∙ sym (count-packets f ps)

  pub packets-same : SameItems (items_of ps) (items_of qs)
  packets-same = record {
    of_roots = λ i. count-same (is_register i);
    of_globals = λ g. count-same (is_global g);
    of_objects = λ x. count-same (is_object x);
    tokens = λ p v all. from-packets (IsGrey p v) qs (All-permutation (AllOf (IsGrey p v)) ps qs order (by-packets (IsGrey p v) ps all));
  }
