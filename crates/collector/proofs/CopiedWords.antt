-- Words of copies: there are as many as the objects that moved have, and more than 2,048 in each block that a worker filled.
use Rattle.std.proofs.Common.{◌≡◌, ◌≢◌, refl, sym, ◌∙◌, ap, subst, ℕ, ◌+◌, ◌*◌, ◌-◌, ◌<◌, ◌≤◌, inl, inr, arith, Bool, false, ◌&&◌, not, IsTrue, nat_eq, nat_lt, zero, suc, List, Option, Some, None}
use Rattle.std.specs.Prelude.{count_by, is_some}
use Rattle.std.specs.List.{range_with_len}
use Rattle.std.proofs.lemmas.Bool.{cases_eq, cases_Bool, eqb-true, ne_eqb, lt-ltb, and_from}
use Rattle.heap_layout.specs.Zones.{row_words, heap_of, block_start}
use Rattle.object_model.specs.Objects.{IsHeld}
use Rattle.object_model.proofs.Marks as marks
use Rattle.object_model.specs.Times.{one_if}
use Rattle.trace_core.specs.Setups.{Setup, blocks, size}
use Rattle.trace_core.specs.Machine.{Event, Machine, address_or_nil}
use Rattle.trace_core.specs.Traces.{IsTracing, machine_after, stage_of, target_of}
use Rattle.trace_core.specs.Outcomes.{image}
use Rattle.trace_core.specs.Rooms.{IsFilled}
use Rattle.trace_core.proofs.Objects.{Some-injective}
use Rattle.trace_core.proofs.Clauses.{held-of, has-room, owned-word}
use Rattle.trace_core.proofs.CountedRights.{count-cons}
use Rattle.trace_core.proofs.Finished.{option-cases}
use Rattle.racing_collector.specs.Together.{total}
use Rattle.collector.proofs.TallySums.{sum_over, sum-same, sum-none, only, sum-only}
use Rattle.collector.proofs.NumberSums.{one-most, one-true, sum-parts, sum-most, sum-ones, sum-within, sum-swap}

-- the word with this owner is one of the copy of x
abbrev is_of : ℕ → Option ℕ → Bool
is_of x None = false
is_of x (Some y) = nat_eq x y

of-some : (x : ℕ) (o : Option ℕ) → 0 < one_if (is_of x o) → o ≡ Some x
of-some x None some = absurd (omega (arith, some))
of-some x (Some y) some = ap Some (sym (eqb-true x y (one-true (nat_eq x y) some)))

-- each number is once among all
once : (y n : ℕ) → y < n → sum_over (λ x. one_if (nat_eq x y)) 0 n ≡ 1
once y n below = sum-same (λ x. one_if (nat_eq x y)) (only (λ _. 1) y) 0 n (λ i _ _. let e : one_if (nat_eq i y) ≡ one_if (nat_eq i y) * 1 = omega arith in e)
    ∙ sum-only (λ _. 1) y 0 n (omega arith) (omega arith)

one-least : (n : ℕ) → n ≡ 1 → 1 ≤ n
one-least n is = omega arith

offset : (s i n : ℕ) → s ≤ i → i < s + 2049 → 2048 < n → (s + (i - s) ≡ i) × (i - s < n)
offset s i n from below many = (omega arith, omega arith)

-- sums of words and blocks, by numbers alone
none-most : (o f : ℕ) → o ≡ 0 → 2049 * o ≤ f
none-most o f none = omega arith

once-most : (o f : ℕ) → o ≡ 1 → 2049 ≤ f → 2049 * o ≤ f
once-most o f one most = omega arith

both-most : (count one rest whole here more : ℕ) → count ≡ one + rest → whole ≡ here + more → 2049 * one ≤ here → 2049 * rest ≤ more → 2049 * count ≤ whole
both-most count one rest whole here more is sum first then = omega arith

last-most : (count low more parts whole weight : ℕ) → parts ≡ low + more → parts ≡ whole → 2049 * count ≤ more → whole ≤ weight → 2049 * count ≤ weight
last-most count low more parts whole weight sum same from most = omega arith

block-more : (n : ℕ) → 4096 + 4096 * n ≡ 4096 * suc n
block-more n = omega arith

next-start : (h j : ℕ) → h + 4096 * (j + 1) ≡ h + 4096 * j + 4096
next-start h j = omega arith

first-start : (h : ℕ) → h + 4096 * 0 ≡ 0 + h
first-start h = omega arith

heap-end : (b : ℕ) → heap_of b + 4096 * b ≡ row_words b
heap-end b = omega arith

module _ (p : Setup) (es : List Event) (trace : IsTracing p es) where
  abbrev m : Machine
  m = machine_after p es

  abbrev F : ℕ → ℕ
  F = image (stage_of p es)

  abbrev all : ℕ
  all = row_words (blocks p)

  -- the object moved
  abbrev pub is_moved : ℕ → Bool
  is_moved x = nat_lt 0 (F x) && not (nat_eq (F x) x)

  abbrev owned : ℕ → ℕ
  owned a = one_if (is_some (m.owner a))

  abbrev of : ℕ → ℕ → ℕ
  of x a = one_if (is_of x (m.owner a))

  -- a word of a copy is one of some object's copy
  owned-of : (a : ℕ) → owned a ≤ sum_over (λ x. of x a) 0 all
  owned-of a = elim (option-cases (m.owner a)) as (λ _. owned a ≤ sum_over (λ x. of x a) 0 all) [
    | inl none ↦ (let e : owned a ≡ 0 = ap (λ o. one_if (is_some o)) none in omega arith)
    | inr own ↦ (let y : ℕ = own.0 in
        let word = owned-word p es trace a y own.1 in
        let there : IsHeld p.before y = marks.held p.before y (held-of p es trace y word.0 word.1) in
        let below : y < all = there.address.below in
        let e : owned a ≡ 1 = ap (λ o. one_if (is_some o)) own.1 in
        let sum : sum_over (λ x. of x a) 0 all ≡ 1 = ap (λ o. sum_over (λ x. one_if (is_of x o)) 0 all) own.1 ∙ once y all below in
        omega arith)
  ]

  abbrev weight : ℕ → ℕ
  weight x = one_if (is_moved x) * size p x

  none-of : (x : ℕ) → ((a : ℕ) → m.owner a ≡ Some x → ⊥) → sum_over (of x) 0 all ≤ weight x
  none-of x none = let e : sum_over (of x) 0 all ≡ 0 = sum-none (of x) 0 all (λ a _ _. no-one a) in omega arith
    where
      no-one : (a : ℕ) → of x a ≡ 0
      no-one a = elim (cases_eq (of x a) 0) as (λ _. of x a ≡ 0) [
        | inl none ↦ none
        | inr some ↦ absurd (none a (of-some x (m.owner a) (let other : of x a ≢ 0 = some in omega arith)))
      ]

  -- the words of one copy are no more than its object has
  words-of : (x : ℕ) → sum_over (of x) 0 all ≤ weight x
  words-of x = elim (option-cases (target_of p es x)) as (λ _. sum_over (of x) 0 all ≤ weight x) [
    | inl none ↦ none-of x (λ a own. let word = owned-word p es trace a x own in let wrong : None ≡ Some word.0 = sym none ∙ word.1 in cc)
    | inr some ↦ (let t : ℕ = some.0 in
        elim (cases_eq t x) as (λ _. sum_over (of x) 0 all ≤ weight x) [
          | inl same ↦ none-of x (λ a own. let word = owned-word p es trace a x own in word.2 (Some-injective word.0 t (sym word.1 ∙ some.1) ∙ same))
          | inr other ↦ (let room = has-room p es trace x t some.1 other in
              let base : heap_of (blocks p) ≤ t = room.address.from in
              let at : F x ≡ t = ap address_or_nil some.1 in
              let one : one_if (is_moved x) * size p x ≡ 1 * size p x = ap (λ b. one_if b * size p x)
              (and_from (nat_lt 0 (F x)) (not (nat_eq (F x) x)) (lt-ltb 0 (F x) (omega arith)) (ap not (ne_eqb (F x) x (λ e. other (sym at ∙ e))))) in
              let sum : sum_over (of x) 0 all + t ≤ t + size p x = sum-within (of x) t (t + size p x) 0 all (omega arith) (λ a. one-most (is_of x (m.owner a))) (λ a _ is. within t some.1 a is) in
              omega arith)
        ])
  ]
    where
      within : (t : ℕ) → target_of p es x ≡ Some t → (a : ℕ) → 0 < of x a → (t ≤ a) × (a < t + size p x)
      within t some a is =
          let word = owned-word p es trace a x (of-some x (m.owner a) is) in
          let same : word.0 ≡ t = Some-injective word.0 t (sym word.1 ∙ some) in
          let from : word.0 ≤ a = word.3.from in
          let below : a < word.0 + size p x = word.3.below in
          (omega arith, omega arith)

  words : sum_over owned 0 all ≤ total (blocks p) weight
  words =
      let each : sum_over owned 0 all ≤ sum_over (λ a. sum_over (λ x. of x a) 0 all) 0 all = sum-most owned (λ a. sum_over (λ x. of x a) 0 all) 0 all (λ a _ _. owned-of a) in
      let swapped : sum_over (λ a. sum_over (λ x. of x a) 0 all) 0 all ≡ sum_over (λ x. sum_over (of x) 0 all) 0 all = sum-swap (λ a x. of x a) 0 all 0 all in
      let most : sum_over (λ x. sum_over (of x) 0 all) 0 all ≤ sum_over weight 0 all = sum-most (λ x. sum_over (of x) 0 all) weight 0 all (λ x _ _. words-of x) in
      let end : sum_over weight 0 all ≡ total (blocks p) weight = refl in
      omega arith

  -- more than half of a filled block
  filled : (k n : ℕ) → 2048 < n → IsFilled p m k n → 2049 ≤ sum_over owned (block_start (blocks p) k) 4096
  filled k n many is = half (sum_over owned s 2049) (sum_over owned (s + 2049) 2047) (sum_over owned s 4096) (sum-parts owned s 2049 2047) (sum-ones owned s 2049 each)
    where
      s : ℕ
      s = block_start (blocks p) k

      half : (a b c : ℕ) → c ≡ a + b → 2049 ≤ a → 2049 ≤ c
      half a b c is some = omega arith

      each : (i : ℕ) → s ≤ i → i < s + 2049 → 1 ≤ owned i
      each i from below = let o = offset s i n from below many in one-least (owned i) (subst (λ a. owned a ≡ 1) o.0 (ap one_if (is (i - s) o.1)))

  module _ (full : ℕ → Bool) (are : (k : ℕ) → IsTrue (full k) → (n : ℕ) × (2048 < n) × IsFilled p m k n) where
    one-block : (j : ℕ) → 2049 * one_if (full j) ≤ sum_over owned (block_start (blocks p) j) 4096
    one-block j = elim (cases_Bool (full j)) as (λ _. 2049 * one_if (full j) ≤ sum_over owned (block_start (blocks p) j) 4096) [
      | inl is ↦ (let d : (n : ℕ) × (2048 < n) × IsFilled p m j n = are j is in once-most (one_if (full j)) _ (ap one_if is) (filled j d.0 d.1 d.2))
      | inr none ↦ none-most (one_if (full j)) _ (ap one_if none)
    ]

    from-block : (j n : ℕ) → 2049 * count_by full (range_with_len j n) ≤ sum_over owned (block_start (blocks p) j) (4096 * n)
    from-block j zero = none-most (count_by full (range_with_len j 0)) _ refl
    from-block j (suc n) =
        let s : ℕ = block_start (blocks p) j in
        subst (λ k. 2049 * count_by full (range_with_len j (suc n)) ≤ sum_over owned s k) (block-more n)
        (both-most (count_by full (range_with_len j (suc n))) (one_if (full j)) (count_by full (range_with_len (j + 1) n)) _ _ _
        (count-cons full j (range_with_len (j + 1) n)) (sum-parts owned s 4096 (4096 * n)) (one-block j)
        (subst (λ a. 2049 * count_by full (range_with_len (j + 1) n) ≤ sum_over owned a (4096 * n)) (next-start (heap_of (blocks p)) j) (from-block (j + 1) n)))

    -- each block that passes the test has more than 2,048 words of objects that moved
    pub full-words : 2049 * count_by full (range_with_len 0 (blocks p)) ≤ total (blocks p) weight
    full-words = last-most _ _ _ _ _ _ (sum-parts owned 0 (heap_of (blocks p)) (4096 * blocks p)) (ap (sum_over owned 0) (heap-end (blocks p)))
        (subst (λ a. 2049 * count_by full (range_with_len 0 (blocks p)) ≤ sum_over owned a (4096 * blocks p)) (first-start (heap_of (blocks p))) (from-block 0 (blocks p))) words
