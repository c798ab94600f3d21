-- Counts of what is held, address by address.
use Rattle.std.proofs.Common.{◌≡◌, ℕ, suc, ◌+◌, ◌*◌, ◌^◌, ◌<◌, ◌≤◌, inl, inr, Bool, true, false, ◌&&◌, nat_le, nat_lt, zero, List, [], ◌∷◌, ◌++◌, length, refl, sym, ap, ◌∙◌, arith, add-zero, zero-add}
use Rattle.std.proofs.Math.Nat.{zero-mul, one-mul}
use Rattle.std.specs.Prelude.{sum_by, count_by, if◌then◌else◌}
use Rattle.std.specs.List.{flat_map, range_with_len}
use Rattle.std.proofs.lemmas.Bool.{cases_Bool, lt-leb, and_left}
use Rattle.std.proofs.lemmas.List.Sums.{sum_by-cons, sum_by-append}
use Rattle.heap_layout.specs.Zones.{row_words, heap_of}
use Rattle.heap_layout.specs.declared.block.Kind.{Kind}
use Rattle.object_model.specs.Objects.{HeapState, is_start, size_at, has_kind}
use Rattle.object_model.specs.Counting.{held_in, count_words_at}
use Rattle.object_model.specs.Times.{one_if}

abbrev pub held_at : HeapState → ℕ → ℕ
held_at s a = one_if (is_start s a)

abbrev pub words_at : HeapState → ℕ → ℕ
words_at s a = one_if (is_start s a) * size_at s a

-- the sum over the addresses below a
abbrev pub below : (ℕ → ℕ) → ℕ → ℕ
below f a = sum_by f (range_with_len 0 a)

range-longer : (a n j : ℕ) → a + n ≡ j → range_with_len a (suc n) ≡ range_with_len a n ++ j ∷ []
range-longer a zero j end = ap (λ z. z ∷ []) (sym (add-zero a) ∙ end)
range-longer a (suc n) j end = ap (λ l. a ∷ l) (range-longer (a + 1) n j (omega (arith, end)))

pub below-more : (f : ℕ → ℕ) (a : ℕ) → below f (a + 1) ≡ below f a + f a
below-more f a =
    let one : a + 1 ≡ suc a = omega arith in
    ap (below f) one ∙ ap (sum_by f) (range-longer 0 a a (zero-add a)) ∙ sum_by-append f (range_with_len 0 a) (a ∷ [])
    ∙ ap (λ n. below f a + n) (sum_by-cons f a [] ∙ add-zero (f a))

pub below-none : (f : ℕ → ℕ) (n : ℕ) → ((a : ℕ) → a < n → f a ≡ 0) → below f n ≡ 0
below-none f zero none = refl
below-none f (suc n) none =
    let one : n + 1 ≡ suc n = omega arith in
    let d : below f (suc n) ≡ below f n + f n = ap (below f) (sym one) ∙ below-more f n in
    let rest : below f n ≡ 0 = below-none f n (λ a less. none a (omega (arith, less))) in
    let own : f n ≡ 0 = none n (omega arith) in
    omega (arith, d, rest, own)

-- no object lies before the heap
pub no-start : (s : HeapState) (a : ℕ) → a < heap_of s.blocks → is_start s a ≡ false
no-start s a before = and_left (nat_le (heap_of s.blocks) a && nat_lt a (row_words s.blocks)) _ (and_left (nat_le (heap_of s.blocks) a) _ (lt-leb (heap_of s.blocks) a before))

pub none-before : (s : HeapState) → below (held_at s) (heap_of s.blocks) ≡ 0
none-before s = below-none (held_at s) (heap_of s.blocks) (λ a less. ap one_if (no-start s a less))

pub no-words-before : (s : HeapState) → below (words_at s) (heap_of s.blocks) ≡ 0
no-words-before s = below-none (words_at s) (heap_of s.blocks) (λ a less. ap (λ b. one_if b * size_at s a) (no-start s a less) ∙ zero-mul (size_at s a))

-- The counts are those of the objects below address a.
pub record CountsBelow (s : HeapState) (a n m : ℕ) : Type 0 where
  pub from : heap_of s.blocks ≤ a
  pub objects : n ≡ below (held_at s) a
  pub words : m ≡ below (words_at s) a
  pub few : n ≤ a
  pub few_words : m ≤ 2 ^ 32 * a

pub counts-first : (s : HeapState) → CountsBelow s (heap_of s.blocks) 0 0
counts-first s = record {
  from = omega arith;
  objects = sym (none-before s);
  words = sym (no-words-before s);
  few = omega arith;
  few_words = omega arith;
}

-- the sum over the n addresses from a on
sum-from : (f : ℕ → ℕ) (a n : ℕ) → below f (a + n) ≡ below f a + sum_by f (range_with_len a n)
sum-from f a zero = ap (below f) (add-zero a) ∙ sym (add-zero (below f a))
sum-from f a (suc n) =
    let end : a + suc n ≡ (a + n) + 1 = omega arith in
    let d : below f (a + suc n) ≡ below f (a + n) + f (a + n) = ap (below f) end ∙ below-more f (a + n) in
    let rest : below f (a + n) ≡ below f a + sum_by f (range_with_len a n) = sum-from f a n in
    let e : sum_by f (range_with_len a (suc n)) ≡ sum_by f (range_with_len a n) + f (a + n) =
    ap (sum_by f) (range-longer a n (a + n) refl) ∙ sum_by-append f (range_with_len a n) ((a + n) ∷ [])
    ∙ ap (λ m. sum_by f (range_with_len a n) + m) (sum_by-cons f (a + n) [] ∙ add-zero (f (a + n))) in
    omega (arith, d, rest, e)

-- the held objects of a list of addresses are counted one by one
module _ (s : HeapState) where
  abbrev listed : List ℕ → List ℕ
  listed ns = flat_map (λ a. if is_start s a then a ∷ [] else []) ns

  listed-count : (ns : List ℕ) → length (listed ns) ≡ sum_by (held_at s) ns
  listed-count [] = refl
  listed-count (a ∷ ns) =
      let rest : length (listed ns) ≡ sum_by (held_at s) ns = listed-count ns in
      let sum : sum_by (held_at s) (a ∷ ns) ≡ held_at s a + sum_by (held_at s) ns = sum_by-cons (held_at s) a ns in
      elim (cases_Bool (is_start s a)) as (λ _. length (listed (a ∷ ns)) ≡ sum_by (held_at s) (a ∷ ns)) [
        | inl is ↦ (
            let own : length (listed (a ∷ ns)) ≡ suc (length (listed ns)) = ap (λ (b : Bool). length ((if b then a ∷ [] else []) ++ listed ns)) is in
            let one : held_at s a ≡ 1 = ap one_if is in omega (arith, own, rest, sum, one))
        | inr none ↦ (
            let own : length (listed (a ∷ ns)) ≡ length (listed ns) = ap (λ (b : Bool). length ((if b then a ∷ [] else []) ++ listed ns)) none in
            let no : held_at s a ≡ 0 = ap one_if none in omega (arith, own, rest, sum, no))
      ]

  listed-words : (ns : List ℕ) → count_words_at s (listed ns) ≡ sum_by (words_at s) ns
  listed-words [] = refl
  listed-words (a ∷ ns) =
      let rest : count_words_at s (listed ns) ≡ sum_by (words_at s) ns = listed-words ns in
      let sum : sum_by (words_at s) (a ∷ ns) ≡ words_at s a + sum_by (words_at s) ns = sum_by-cons (words_at s) a ns in
      elim (cases_Bool (is_start s a)) as (λ _. count_words_at s (listed (a ∷ ns)) ≡ sum_by (words_at s) (a ∷ ns)) [
        | inl is ↦ (
            let own : count_words_at s (listed (a ∷ ns)) ≡ size_at s a + count_words_at s (listed ns) = ap (λ (b : Bool). count_words_at s ((if b then a ∷ [] else []) ++ listed ns)) is in
            let one : words_at s a ≡ size_at s a = ap (λ b. one_if b * size_at s a) is ∙ one-mul (size_at s a) in
            own ∙ ap (λ n. size_at s a + n) rest ∙ ap (λ n. n + sum_by (words_at s) ns) (sym one) ∙ sym sum)
        | inr none ↦ (
            let own : count_words_at s (listed (a ∷ ns)) ≡ count_words_at s (listed ns) = ap (λ (b : Bool). count_words_at s ((if b then a ∷ [] else []) ++ listed ns)) none in
            let no : words_at s a ≡ 0 = ap (λ b. one_if b * size_at s a) none ∙ zero-mul (size_at s a) in
            own ∙ rest ∙ sym (zero-add (sum_by (words_at s) ns)) ∙ ap (λ n. n + sum_by (words_at s) ns) (sym no) ∙ sym sum)
      ]

-- what is held is the sum over all addresses of the row
pub held-count : (s : HeapState) → length (held_in s) ≡ below (held_at s) (row_words s.blocks)
held-count s =
    let end : row_words s.blocks ≡ heap_of s.blocks + 4096 * s.blocks = omega arith in
    let all : below (held_at s) (row_words s.blocks) ≡ below (held_at s) (heap_of s.blocks) + sum_by (held_at s) (range_with_len (heap_of s.blocks) (4096 * s.blocks)) = ap (below (held_at s)) end ∙ sum-from (held_at s) (heap_of s.blocks) (4096 * s.blocks) in
    listed-count s (range_with_len (heap_of s.blocks) (4096 * s.blocks)) ∙ sym (zero-add _) ∙ ap (λ n. n + sum_by (held_at s) (range_with_len (heap_of s.blocks) (4096 * s.blocks))) (sym (none-before s)) ∙ sym all

pub held-words : (s : HeapState) → count_words_at s (held_in s) ≡ below (words_at s) (row_words s.blocks)
held-words s =
    let end : row_words s.blocks ≡ heap_of s.blocks + 4096 * s.blocks = omega arith in
    let all : below (words_at s) (row_words s.blocks) ≡ below (words_at s) (heap_of s.blocks) + sum_by (words_at s) (range_with_len (heap_of s.blocks) (4096 * s.blocks)) = ap (below (words_at s)) end ∙ sum-from (words_at s) (heap_of s.blocks) (4096 * s.blocks) in
    listed-words s (range_with_len (heap_of s.blocks) (4096 * s.blocks)) ∙ sym (zero-add _) ∙ ap (λ n. n + sum_by (words_at s) (range_with_len (heap_of s.blocks) (4096 * s.blocks))) (sym (no-words-before s)) ∙ sym all

-- This many of the blocks below k have the kind.
pub record KindsBelow (s : HeapState) (kind : Kind) (k n : ℕ) : Type 0 where
  pub count : n ≡ count_by (λ j. has_kind s j kind) (range_with_len 0 k)
  pub few : n ≤ k

module _ (s : HeapState) (kind : Kind) (k n : ℕ) (counts : KindsBelow s kind k n) where
  more : below (λ j. one_if (has_kind s j kind)) (k + 1) ≡ below (λ j. one_if (has_kind s j kind)) k + one_if (has_kind s k kind)
  more = below-more (λ j. one_if (has_kind s j kind)) k

  pub one-counted : has_kind s k kind ≡ true → KindsBelow s kind (k + 1) (n + 1)
  one-counted is = record {
    count = ap (λ m. m + 1) counts.count ∙ ap (λ b. below (λ j. one_if (has_kind s j kind)) k + one_if b) (sym is) ∙ sym more;
    few = omega (arith, counts.few);
  }

  pub no-kind-counted : has_kind s k kind ≡ false → KindsBelow s kind (k + 1) n
  no-kind-counted none = record {
    count = counts.count ∙ sym (add-zero (below (λ j. one_if (has_kind s j kind)) k)) ∙ ap (λ b. below (λ j. one_if (has_kind s j kind)) k + one_if b) (sym none) ∙ sym more;
    few = omega (arith, counts.few);
  }
