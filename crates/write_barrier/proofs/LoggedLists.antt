-- The logged objects below an address, as the address rises.
use Rattle.std.proofs.Common.{◌≡◌, ◌≢◌, sym, ◌∙◌, ap, ℕ, zero, suc, ◌+◌, ◌<◌, ◌≤◌, inl, inr, arith, true, false, ◌&&◌, nat_eq, nat_lt, nat_le, eq-eqb, ne_eqb, zero-add, List, [], ◌∷◌, ◌++◌, length}
use Rattle.std.specs.Prelude.{filter}
use Rattle.std.specs.List.{range_with_len, AllPairs}
use Rattle.std.proofs.lemmas.Bool.{cases_Bool, cases_eq, cond-true, cond-false, lt-ltb, lt-leb, and_left, and_right, and_parts}
use Rattle.std.proofs.lemmas.List.{append-nil}
use Rattle.std.proofs.lemmas.List.Elements.{filter-append}
use Rattle.std.proofs.lemmas.List.FromFn.{get_or-range_with_len, length-range_with_len}
use Rattle.std.proofs.lemmas.List.Kept.{AllPairs-filter}
use Rattle.std.proofs.lemmas.List.Sums.{sum_by-append}
use Rattle.heap_layout.specs.Zones.{row_words, heap_of, block_start}
use Rattle.object_model.specs.Objects.{HeapState, is_start}
use Rattle.object_model.specs.Ages.{is_old, is_logged, ListsLogged}
use Rattle.object_model.specs.Times.{times, one_if}
use Rattle.object_model.proofs.Marks.{held}
use Rattle.write_barrier.specs.Listed.{logged_below}

range-more : (a n : ℕ) → range_with_len a (suc n) ≡ range_with_len a n ++ (a + n) ∷ []
range-more a zero = ap (λ z. z ∷ []) (let e : a ≡ a + zero = omega arith in e)
range-more a (suc n) = ap (λ l. a ∷ l) (range-more (a + 1) n ∙ ap (λ z. range_with_len (a + 1) n ++ z ∷ []) (let e : a + 1 + n ≡ a + suc n = omega arith in e))

module _ (s : HeapState) where
  -- one address more, whose object is logged or not
  more : (a : ℕ) → logged_below s (a + 1) ≡ logged_below s a ++ filter (is_logged s) (a ∷ [])
  more a =
      let one : a + 1 ≡ suc a = omega arith in
      ap (logged_below s) one ∙ ap (filter (is_logged s)) (range-more 0 a) ∙ ap (λ z. filter (is_logged s) (range_with_len 0 a ++ z ∷ [])) (zero-add a)
      ∙ filter-append (is_logged s) (range_with_len 0 a) (a ∷ [])

  pub with-logged : (a : ℕ) → is_logged s a ≡ true → logged_below s (a + 1) ≡ logged_below s a ++ a ∷ []
  with-logged a is = more a ∙ ap (λ l. logged_below s a ++ l) (cond-true (is_logged s a) (a ∷ []) [] is)

  pub without-logged : (a : ℕ) → is_logged s a ≡ false → logged_below s (a + 1) ≡ logged_below s a
  without-logged a none = more a ∙ ap (λ l. logged_below s a ++ l) (cond-false (is_logged s a) (a ∷ []) [] none) ∙ append-nil (logged_below s a)

  pub none-between : (a n : ℕ) → ((j : ℕ) → j < n → is_logged s (a + j) ≡ false) → logged_below s (a + n) ≡ logged_below s a
  none-between a zero none = ap (logged_below s) (let e : a + zero ≡ a = omega arith in e)
  none-between a (suc n) none =
      let end : a + suc n ≡ a + n + 1 = omega arith in
      ap (logged_below s) end ∙ without-logged (a + n) (none n (omega arith)) ∙ none-between a n (λ j less. none j (omega arith))

  -- none lies before the heap
  pub none-before : logged_below s (block_start s.blocks 0) ≡ []
  none-before =
      let first : block_start s.blocks 0 ≡ 0 + heap_of s.blocks = omega arith in
      ap (logged_below s) first ∙ none-between 0 (heap_of s.blocks) (λ j less.
      and_left (is_start s (0 + j) && is_old s (0 + j)) _ (and_left (is_start s (0 + j)) _
      (and_left (nat_le (heap_of s.blocks) (0 + j) && nat_lt (0 + j) (row_words s.blocks)) _
      (and_left (nat_le (heap_of s.blocks) (0 + j)) _ (lt-leb (heap_of s.blocks) (0 + j) (omega (arith, less)))))))

  -- each logged object below the address is in the list once, and nothing else
  times-one : (x a : ℕ) → times x (a ∷ []) ≡ one_if (nat_eq x a)
  times-one x a = zero-add (one_if (nat_eq x a))

  times-more : (x a : ℕ) (xs : List ℕ) → times x (xs ++ a ∷ []) ≡ times x xs + one_if (nat_eq x a)
  times-more x a xs = sum_by-append (λ y. one_if (nat_eq x y)) xs (a ∷ []) ∙ ap (λ n. times x xs + n) (times-one x a)

  -- below the next address: the same, but for the address itself
  below-next : (x n : ℕ) → x ≢ n → nat_lt x (n + 1) ≡ nat_lt x n
  below-next x n other = grind arith

  not-below : (x n : ℕ) → n ≤ x → nat_lt x n ≡ false
  not-below x n from = grind arith

  times-below : (x n : ℕ) → times x (logged_below s n) ≡ one_if (nat_lt x n && is_logged s x)
  times-below x zero = sym (ap (λ b. one_if (b && is_logged s x)) (not-below x zero (omega arith)))
  times-below x (suc n) =
      let next : suc n ≡ n + 1 = omega arith in
      let rest : times x (logged_below s n) ≡ one_if (nat_lt x n && is_logged s x) = times-below x n in
      ap (λ k. times x (logged_below s k)) next
      ∙ (elim (cases_Bool (is_logged s n)) as (λ _. times x (logged_below s (n + 1)) ≡ one_if (nat_lt x (n + 1) && is_logged s x)) [
        | inl is ↦ ap (times x) (with-logged n is) ∙ times-more x n (logged_below s n)
            ∙ (elim (cases_eq x n) as (λ _. times x (logged_below s n) + one_if (nat_eq x n) ≡ one_if (nat_lt x (n + 1) && is_logged s x)) [
              | inl same ↦
                  (let none : times x (logged_below s n) ≡ 0 = rest ∙ ap (λ b. one_if (b && is_logged s x)) (not-below x n (omega arith)) in
                  let own : one_if (nat_eq x n) ≡ 1 = ap one_if (eq-eqb x n same) in
                  let all : one_if (nat_lt x (n + 1) && is_logged s x) ≡ 1 = ap (λ b. one_if (b && is_logged s x)) (lt-ltb x (n + 1) (omega arith)) ∙ ap one_if (ap (is_logged s) same ∙ is) in
                  omega arith)
              | inr other ↦
                  (let none : one_if (nat_eq x n) ≡ 0 = ap one_if (ne_eqb x n other) in
                  let same : one_if (nat_lt x (n + 1) && is_logged s x) ≡ one_if (nat_lt x n && is_logged s x) = ap (λ b. one_if (b && is_logged s x)) (below-next x n other) in
                  omega arith)
            ])
        | inr none ↦ ap (times x) (without-logged n none) ∙ rest
            ∙ (elim (cases_eq x n) as (λ _. one_if (nat_lt x n && is_logged s x) ≡ one_if (nat_lt x (n + 1) && is_logged s x)) [
              | inl same ↦ (let not : is_logged s x ≡ false = ap (is_logged s) same ∙ none in
                  ap one_if (and_right (nat_lt x n) (is_logged s x) not) ∙ sym (ap one_if (and_right (nat_lt x (n + 1)) (is_logged s x) not)))
              | inr other ↦ sym (ap (λ b. one_if (b && is_logged s x)) (below-next x n other))
            ])
      ])
      ∙ sym (ap (λ k. one_if (nat_lt x k && is_logged s x)) next)

  in-row : (x : ℕ) → (nat_lt x (row_words s.blocks) && is_logged s x) ≡ is_logged s x
  in-row x = elim (cases_Bool (is_logged s x)) as (λ _. (nat_lt x (row_words s.blocks) && is_logged s x) ≡ is_logged s x) [
    | inl is ↦
        (let start : is_start s x ≡ true = (and_parts (is_start s x) (is_old s x) (and_parts (is_start s x && is_old s x) _ is).0).0 in
        ap (λ b. b && is_logged s x) (lt-ltb x (row_words s.blocks) (held s x start).address.below))
    | inr none ↦ and_right (nat_lt x (row_words s.blocks)) (is_logged s x) none ∙ sym none
  ]

  pub lists : ListsLogged s (logged_below s (row_words s.blocks))
  lists = record {
    rising = λ i j less within. AllPairs-filter (λ x y. x < y) (is_logged s) (range_with_len 0 (row_words s.blocks)) (in-turn (row_words s.blocks)) i j 0 less within;
    all = λ x. times-below x (row_words s.blocks) ∙ ap one_if (in-row x);
  }
    where
      in-turn : (n : ℕ) → AllPairs (λ (x y : ℕ). x < y) (range_with_len 0 n)
      in-turn n i j d less within =
          let long : length (range_with_len 0 n) ≡ n = length-range_with_len 0 n in
          let first = get_or-range_with_len 0 n i d (omega (arith, long)) in
          let second = get_or-range_with_len 0 n j d (omega (arith, long)) in
          omega (arith, first, second, less)
