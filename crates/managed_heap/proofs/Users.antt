-- One of the mutators of a manager, and how it allocates one more object.
use Rattle.std.proofs.Common.{◌≡◌, ◌≢◌, refl, sym, ◌∙◌, ap, subst, ℕ, suc, ◌+◌, ◌<◌, ◌≤◌, inl, inr, arith, List, [], ◌∷◌, length, map, Option, Some, None}
use Rattle.std.specs.Prelude.{slice_get, option_map}
use Rattle.std.specs.List.{Contains, range_with_len}
use Rattle.std.proofs.lemmas.Bool.{cases_eq}
use Rattle.std.proofs.lemmas.Option.{slice_get-map, slice_get-get_or, get_or_from_slice_get}
use Rattle.std.proofs.lemmas.List.FromFn.{get_or-range_with_len, length-range_with_len}
use Rattle.std.proofs.lemmas.List.{length-map}
use Rattle.ideal_heap.specs.Names.{name}
use Rattle.ideal_heap.specs.Ideal.{IdealHeap}
use Rattle.object_model.specs.Objects.{HeapState, IsHeld, name_at}
use Rattle.object_model.specs.Graphs.{MutatorState, Represents, numbers_of, with_birth, add_birth, with_register, set_register_of}
use Rattle.object_model.proofs.Registers.{changed, changed-yes, changed-no}
use Rattle.object_model.proofs.Representation.{option_cases}
use Rattle.mutator_calls.specs.declared.need.Mutator.{Mutator}
use Rattle.heap_users.specs.Users.{mutator_state}
use Rattle.block_regions.specs.Elements.{ChangesAt}
use Rattle.block_regions.proofs.Lists.{get-below, get-map, one-element}
use Rattle.heap_users.proofs.UserLists.{all-each, any-get}
use Rattle.managed_heap.specs.Needs.{with_new_object}

-- two lists with the same elements
pub same-list : {A : Type 0} (xs ys : List A) → ((j : ℕ) → slice_get xs j ≡ slice_get ys j) → xs ≡ ys
same-list [] [] same = refl
same-list [] (y ∷ ys) same = let wrong : None ≡ Some y = same 0 in cc
same-list (x ∷ xs) [] same = let wrong : Some x ≡ None = same 0 in cc
same-list (x ∷ xs) (y ∷ ys) same =
    ap (λ z. z ∷ xs) (one-element (slice_get (x ∷ xs) 0) x y refl (same 0)) ∙ ap (λ zs. y ∷ zs) (same-list xs ys (λ j. same (suc j)))

-- the mutators have the numbers from 1 on
module _ (us : List Mutator) (n : ℕ) (listed : numbers_of (map mutator_state us) ≡ range_with_len 1 n) where
  pub count-of : length us ≡ n
  count-of = sym (length-map us mutator_state) ∙ sym (length-map (map mutator_state us) (λ m. m.number)) ∙ ap length listed ∙ length-range_with_len 1 n

  pub number-of : (k : ℕ) (u : Mutator) → slice_get us k ≡ Some u → u.number ≡ k + 1
  number-of k u is =
      let here : slice_get (numbers_of (map mutator_state us)) k ≡ Some u.number = get-map (λ m. m.number) (map mutator_state us) k (mutator_state u) (get-map mutator_state us k u is) in
      let below : k < n = (let many : length us ≡ n = count-of in let less : k < length us = get-below us k u is in omega arith) in
      let there : slice_get (range_with_len 1 n) k ≡ Some (1 + k) = slice_get-get_or (range_with_len 1 n) k 0 (let many : length (range_with_len 1 n) ≡ n = length-range_with_len 1 n in omega arith)
      ∙ ap (λ v. Some v) (get_or-range_with_len 1 n k 0 below) in
      let same : u.number ≡ 1 + k = one-element (slice_get (range_with_len 1 n) k) u.number (1 + k) (ap (λ xs. slice_get xs k) (sym listed) ∙ here) there in
      omega arith

  module _ (k m : ℕ) (u : Mutator) (at : k + 1 ≡ m) (here : slice_get us k ≡ Some u) where
    number-here : u.number ≡ m
    number-here = number-of k u here ∙ at

    -- its number is one of theirs
    pub known-number : Contains (numbers_of (map mutator_state us)) m
    known-number =
        let there : slice_get (numbers_of (map mutator_state us)) k ≡ Some m = get-map (λ x. x.number) (map mutator_state us) k (mutator_state u) (get-map mutator_state us k u here) ∙ ap (λ v. Some v) number-here in
        (k, get-below (numbers_of (map mutator_state us)) k m there, get_or_from_slice_get (numbers_of (map mutator_state us)) k m m there)

    module _ (s : HeapState) (h : IdealHeap) (represents : Represents s (map mutator_state us) h) where
      -- it has allocated as many objects as in the ideal heap
      pub births-here : h.births m ≡ u.births
      births-here = ap h.births (sym number-here) ∙ all-each (λ x. h.births x.number ≡ x.births) us k u represents.births.births here

      -- and no held object has its next name
      pub fresh-name : (x : ℕ) → IsHeld s x → name_at s x ≢ name m (u.births + 1)
      fresh-name x holds e =
          let found = any-get (λ y. ((name_at s x).mutator ≡ y.number) × ((name_at s x).birth ≤ y.births)) us (represents.births.held x holds) in
          let whose : found.1.number ≡ found.0 + 1 = number-of found.0 found.1 found.2 in
          let mine : (name_at s x).mutator ≡ m = ap (λ q. q.mutator) e in
          let theirs : (name_at s x).mutator ≡ found.1.number = found.3.0 in
          let place : found.0 ≡ k = omega arith in
          let same : found.1 ≡ u = one-element (slice_get us k) found.1 u (ap (slice_get us) (sym place) ∙ found.2) here in
          let most : (name_at s x).birth ≤ u.births = subst (λ (v : Mutator). (name_at s x).birth ≤ v.births) same found.3.1 in
          let next : (name_at s x).birth ≡ u.births + 1 = ap (λ q. q.birth) e in
          omega arith

    -- the mutators after it allocated one more
    module _ (new : List Mutator) (d a : ℕ) (change : ChangesAt us new k (with_new_object u d a)) where
      abbrev grown : MutatorState → MutatorState
      grown x = changed m (λ y. with_register y d a) (changed m with_birth x)

      own : grown (mutator_state u) ≡ mutator_state (with_new_object u d a)
      own = ap (changed m (λ y. with_register y d a)) (changed-yes m with_birth (mutator_state u) number-here)
          ∙ changed-yes m (λ y. with_register y d a) (with_birth (mutator_state u)) number-here

      other : (v : Mutator) → v.number ≢ m → grown (mutator_state v) ≡ mutator_state v
      other v differ = ap (changed m (λ y. with_register y d a)) (changed-no m with_birth (mutator_state v) differ)
          ∙ changed-no m (λ y. with_register y d a) (mutator_state v) differ

      listed-after : (j : ℕ) → slice_get (set_register_of (add_birth (map mutator_state us) m) m d a) j ≡ option_map grown (slice_get (map mutator_state us) j)
      listed-after j = slice_get-map (changed m (λ y. with_register y d a)) (add_birth (map mutator_state us) m) j
          ∙ ap (option_map (changed m (λ y. with_register y d a))) (slice_get-map (changed m with_birth) (map mutator_state us) j)
          ∙ twice (slice_get (map mutator_state us) j)
        where
          twice : (o : Option MutatorState) → option_map (changed m (λ y. with_register y d a)) (option_map (changed m with_birth) o) ≡ option_map grown o
          twice None = refl
          twice (Some x) = refl

      each-after : (j : ℕ) → slice_get (map mutator_state new) j ≡ option_map grown (slice_get (map mutator_state us) j)
      each-after j = elim (cases_eq j k) as (λ _. slice_get (map mutator_state new) j ≡ option_map grown (slice_get (map mutator_state us) j)) [
        | inl e ↦ subst (λ (q : ℕ). slice_get (map mutator_state new) q ≡ option_map grown (slice_get (map mutator_state us) q)) (sym e)
            (get-map mutator_state new k (with_new_object u d a) change.here ∙ ap (λ x. Some x) (sym own) ∙ sym (ap (option_map grown) (get-map mutator_state us k u here)))
        | inr away ↦ slice_get-map mutator_state new j ∙ ap (option_map mutator_state) (change.others j away) ∙ kept j away ∙ ap (option_map grown) (sym (slice_get-map mutator_state us j))
      ]
        where
          kept : (j : ℕ) → j ≢ k → option_map mutator_state (slice_get us j) ≡ option_map grown (option_map mutator_state (slice_get us j))
          kept j away = elim (option_cases (slice_get us j)) as (λ _. option_map mutator_state (slice_get us j) ≡ option_map grown (option_map mutator_state (slice_get us j))) [
            | inl none ↦ subst (λ (o : Option Mutator). option_map mutator_state o ≡ option_map grown (option_map mutator_state o)) (sym none) refl
            | inr some ↦ subst (λ (o : Option Mutator). option_map mutator_state o ≡ option_map grown (option_map mutator_state o)) (sym some.1)
                (ap (λ x. Some x) (sym (other some.0 (λ e. away (let number : some.0.number ≡ j + 1 = number-of j some.0 some.1 in omega arith)))))
          ]

      pub mutators-after : map mutator_state new ≡ set_register_of (add_birth (map mutator_state us) m) m d a
      mutators-after = same-list (map mutator_state new) (set_register_of (add_birth (map mutator_state us) m) m d a) (λ j. each-after j ∙ sym (listed-after j))
