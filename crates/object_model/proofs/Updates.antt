-- Maps as functions, changed at one place; lists made of a range.
use Rattle.std.proofs.Common.{◌≡◌, ◌≢◌, sym, ◌∙◌, ap, ℕ, ◌<◌, inl, inr, arith, nat_eq, map, length, get_or, slice_set, replicate, eq-eqb, zero-add}
use Rattle.std.specs.List.{range_with_len}
use Rattle.std.proofs.lemmas.Bool.{cond-true, cases_eq}
use Rattle.std.proofs.lemmas.List.{ext_get_or, length-set, get_or-set_same, get_or-set_other, get_or-replicate, length-replicate}
use Rattle.std.proofs.lemmas.List.FromFn.{get_or-map-range_with_len, length-map-range_with_len}
use Rattle.ideal_heap.specs.Ideal.{at_number}

pub at_number-same : {X : Type 0} (f : ℕ → X) (k : ℕ) (x : X) (q : ℕ) → q ≡ k → at_number f k x q ≡ x
at_number-same f k x q e = cond-true (nat_eq q k) x (f q) (eq-eqb q k e)

-- two functions that agree below n make the same list
pub map-range-same : {X : Type 0} (d : X) (f g : ℕ → X) (n : ℕ) → ((i : ℕ) → i < n → f i ≡ g i) → map f (range_with_len 0 n) ≡ map g (range_with_len 0 n)
map-range-same d f g n same =
    ext_get_or d (map f (range_with_len 0 n)) (map g (range_with_len 0 n)) (length-map-range_with_len f 0 n ∙ sym (length-map-range_with_len g 0 n))
    (λ i within. let below : i < n = (let e : length (map f (range_with_len 0 n)) ≡ n = length-map-range_with_len f 0 n in omega arith) in
    get_or-map-range_with_len f 0 n i i d below (zero-add i) ∙ same i below ∙ sym (get_or-map-range_with_len g 0 n i i d below (zero-add i)))

-- and if they differ at j alone, one list is the other with that element set
pub map-range-set : {X : Type 0} (d : X) (f g : ℕ → X) (n j : ℕ) → j < n → ((i : ℕ) → i ≢ j → i < n → f i ≡ g i)
    → map f (range_with_len 0 n) ≡ slice_set (map g (range_with_len 0 n)) j (f j)
map-range-set d f g n j small others =
    let many : length (map g (range_with_len 0 n)) ≡ n = length-map-range_with_len g 0 n in
    let count : length (map f (range_with_len 0 n)) ≡ n = length-map-range_with_len f 0 n in
    ext_get_or d (map f (range_with_len 0 n)) (slice_set (map g (range_with_len 0 n)) j (f j))
    (count ∙ sym (length-set (map g (range_with_len 0 n)) j (f j) ∙ many))
    (λ i within. let below : i < n = omega arith in
    get_or-map-range_with_len f 0 n i i d below (zero-add i)
    ∙ elim (cases_eq i j) as (λ _. f i ≡ get_or (slice_set (map g (range_with_len 0 n)) j (f j)) i d) [
      | inl same ↦ ap f same ∙ sym (get_or-set_same (map g (range_with_len 0 n)) j (f j) d (omega arith)) ∙ ap (λ k. get_or (slice_set (map g (range_with_len 0 n)) j (f j)) k d) (sym same)
      | inr other ↦ others i other below ∙ sym (get_or-map-range_with_len g 0 n i i d below (zero-add i)) ∙ sym (get_or-set_other (map g (range_with_len 0 n)) j i (f j) d other)
    ])

-- a function that is d below n makes n times d
pub map-range-all : {X : Type 0} (d : X) (f : ℕ → X) (n : ℕ) → ((i : ℕ) → i < n → f i ≡ d) → map f (range_with_len 0 n) ≡ replicate n d
map-range-all d f n same =
    let many : length (map f (range_with_len 0 n)) ≡ n = length-map-range_with_len f 0 n in
    ext_get_or d (map f (range_with_len 0 n)) (replicate n d) (many ∙ sym (length-replicate n d))
    (λ i within. let below : i < n = omega arith in
    get_or-map-range_with_len f 0 n i i d below (zero-add i) ∙ same i below ∙ sym (get_or-replicate n i d d below))
