-- Counts of the objects that begin at the 64 addresses of a word of start bits.
use Rattle.std.proofs.Common.{◌≡◌, ◌≢◌, ℕ, zero, suc, ◌+◌, ◌*◌, ◌%◌, ◌^◌, ◌<◌, ◌≤◌, inl, inr, Bool, true, false, true≢false, IsTrue, nat_eq, w64, bit_and, refl, sym, ap, ap₂, ◌∙◌, subst, arith, eq-eqb, add-zero, zero-add}
use Rattle.std.specs.Int.{bit_at, bit_not}
use Rattle.std.proofs.Math.Nat.{zero-mul, one-mul}
use Rattle.std.proofs.lemmas.Bool.{cases_eq}
use Rattle.std.proofs.lemmas.Nat.Bits.{bit_at_clear_same, bit_at_clear_other}
use Rattle.heap_layout.specs.Zones.{StartBits, first, heap_of, IsAddress}
use Rattle.object_model.proofs.WordReads.{bit-there, without-less}
use Rattle.object_model.specs.Objects.{HeapState, IsHeld, word_at, is_start, size_at}
use Rattle.object_model.specs.Times.{one_if}
use Rattle.side_meta.specs.BitWords.{has_bit}
use Rattle.side_meta.proofs.BitWords.{one-shifted}
use Rattle.object_model.specs.BitWords.{address_of}
use Rattle.object_model.proofs.HeldCounts.{CountsBelow, held_at, words_at, below, below-more}

-- word i of start bits
abbrev pub start_word : HeapState → ℕ → ℕ
start_word s i = word_at s (first s.blocks StartBits + i)

-- the word without bit b
abbrev pub without : ℕ → ℕ → ℕ
without rest b = bit_and rest (bit_not w64 (1 * 2 ^ b % 2 ^ 64))

-- it is less, if the bit was set
pub cleared-less : (rest b : ℕ) → b < 64 → bit_at rest b ≡ 1 → without rest b < rest
cleared-less rest b low set = subst (λ (n : ℕ). bit_and rest (bit_not w64 n) < rest) (sym (one-shifted b low)) (without-less rest b low set)

pub same-below : (f g : ℕ → ℕ) (n : ℕ) → ((j : ℕ) → j < n → f j ≡ g j) → below f n ≡ below g n
same-below f g zero same = refl
same-below f g (suc n) same =
    let one : n + 1 ≡ suc n = omega arith in
    let d : below f (suc n) ≡ below f n + f n = ap (below f) (sym one) ∙ below-more f n in
    let e : below g (suc n) ≡ below g n + g n = ap (below g) (sym one) ∙ below-more g n in
    let rest : below f n ≡ below g n = same-below f g n (λ j less. same j (omega (arith, less))) in
    let a : f n ≡ g n = same n (omega arith) in
    omega (arith, d, e, rest, a)

-- two sums that differ in one summand
one-changes : (f g : ℕ → ℕ) (b n : ℕ) → b < n → ((j : ℕ) → j < n → j ≢ b → f j ≡ g j) → below f n + g b ≡ below g n + f b
one-changes f g b zero there same = absurd (omega (arith, there))
one-changes f g b (suc n) there same =
    let one : n + 1 ≡ suc n = omega arith in
    let d : below f (suc n) ≡ below f n + f n = ap (below f) (sym one) ∙ below-more f n in
    let e : below g (suc n) ≡ below g n + g n = ap (below g) (sym one) ∙ below-more g n in
    elim (cases_eq n b) as (λ _. below f (suc n) + g b ≡ below g (suc n) + f b) [
      | inl here ↦ (
          let rest : below f n ≡ below g n = same-below f g n (λ j less. same j (omega (arith, less)) (λ is. absurd (omega (arith, less, is, here)))) in
          let a : f n ≡ f b = ap f here in let c : g n ≡ g b = ap g here in
          omega (arith, d, e, rest, a, c))
      | inr other ↦ (
          let away : n ≡ b → ⊥ = other in
          let rest : below f n + g b ≡ below g n + f b = one-changes f g b n (omega (arith, there, away)) (λ j less. same j (omega (arith, less))) in
          let a : f n ≡ g n = same n (omega arith) other in
          omega (arith, d, e, rest, a))
    ]

address : (s : HeapState) (i : ℕ) → i < 64 * s.blocks → (j : ℕ) → j < 64 → IsAddress s.blocks (address_of s i j)
address s i there j small = record { from = omega arith; below = omega (arith, there, small) }

-- The objects of this word of start bits are counted, but for those whose bits are left.
pub record CountsBut (s : HeapState) (i rest n m : ℕ) : Type 0 where
  pub within : (j : ℕ) → j < 64 → IsTrue (has_bit rest j) → IsTrue (is_start s (address_of s i j))
  pub objects : n + below (λ j. one_if (has_bit rest j)) 64 ≡ below (λ j. one_if (is_start s (address_of s i j))) 64
  pub words : m + below (λ j. one_if (has_bit rest j) * size_at s (address_of s i j)) 64
      ≡ below (λ j. one_if (is_start s (address_of s i j)) * size_at s (address_of s i j)) 64
  pub few_words : m ≤ 2 ^ 20 * n

few-ones : (f : ℕ → Bool) (n : ℕ) → below (λ j. one_if (f j)) n ≤ n
few-ones f zero = omega arith
few-ones f (suc n) =
    let one : n + 1 ≡ suc n = omega arith in
    let d : below (λ j. one_if (f j)) (suc n) ≡ below (λ j. one_if (f j)) n + one_if (f n) = ap (below (λ j. one_if (f j))) (sym one) ∙ below-more (λ j. one_if (f j)) n in
    let rest : below (λ j. one_if (f j)) n ≤ n = few-ones f n in
    let most : one_if (f n) ≤ 1 = at-most (f n) in omega (arith, d, rest, most)
  where
    at-most : (b : Bool) → one_if b ≤ 1
    at-most true = omega arith
    at-most false = omega arith

pub few-started : (s : HeapState) (i n : ℕ) → n ≡ below (λ j. one_if (is_start s (address_of s i j))) 64 → n ≤ 64
few-started s i n is = subst (λ (k : ℕ). k ≤ 64) (sym is) (few-ones (λ j. is_start s (address_of s i j)) 64)

pub few-counted : (s : HeapState) (i rest n m : ℕ) → CountsBut s i rest n m → n ≤ 64
few-counted s i rest n m counts = omega (arith, counts.objects, few-ones (λ j. is_start s (address_of s i j)) 64)

pub none-counted : (s : HeapState) (i : ℕ) → i < 64 * s.blocks → CountsBut s i (start_word s i) 0 0
none-counted s i there = record {
  within = λ j small set. bit-there s.blocks StartBits s.words i j there small ∙ set;
  objects = zero-add _ ∙ same-below _ _ 64 (λ j small. ap one_if (sym (bit-there s.blocks StartBits s.words i j there small)));
  words = zero-add _ ∙ same-below _ _ 64 (λ j small. ap (λ b. one_if b * size_at s (address_of s i j)) (sym (bit-there s.blocks StartBits s.words i j there small)));
  few_words = omega arith;
}

moved-one : (n size l l' a a' t : ℕ) → l' + a ≡ l + a' → a ≡ size → a' ≡ 0 → n + l ≡ t → n + size + l' ≡ t
moved-one n size l l' a a' t change own none before = omega arith

-- the object of the lowest bit that is left is counted
module _ (s : HeapState) (i rest n m : ℕ) (there : i < 64 * s.blocks) (counts : CountsBut s i rest n m) (b : ℕ) (low : b < 64) (set : bit_at rest b ≡ 1) where
  has : IsTrue (has_bit rest b)
  has = eq-eqb (bit_at rest b) 1 set

  pub held-next : IsHeld s (address_of s i b)
  held-next = record { address = address s i there b low; start = counts.within b low has }

  gone : has_bit (without rest b) b ≡ false
  gone = ap (λ v. nat_eq v 1) (bit_at_clear_same w64 rest b low)

  other : (j : ℕ) → j < 64 → j ≢ b → has_bit (without rest b) j ≡ has_bit rest j
  other j small ne = ap (λ v. nat_eq v 1) (bit_at_clear_other w64 rest b low j small ne)

  pub next-counted : (size : ℕ) → size ≡ size_at s (address_of s i b) → size ≤ 2 ^ 20 → CountsBut s i (without rest b) (n + 1) (m + size)
  next-counted size is small =
      let f : ℕ → ℕ = λ j. one_if (has_bit rest j) in
      let f' : ℕ → ℕ = λ j. one_if (has_bit (without rest b) j) in
      let g : ℕ → ℕ = λ j. one_if (has_bit rest j) * size_at s (address_of s i j) in
      let g' : ℕ → ℕ = λ j. one_if (has_bit (without rest b) j) * size_at s (address_of s i j) in
      let change : below f' 64 + f b ≡ below f 64 + f' b = one-changes f' f b 64 low (λ j less ne. ap one_if (other j less ne)) in
      let change' : below g' 64 + g b ≡ below g 64 + g' b = one-changes g' g b 64 low (λ j less ne. ap (λ t. one_if t * size_at s (address_of s i j)) (other j less ne)) in
      let one : f b ≡ 1 = ap one_if has in
      let none : f' b ≡ 0 = ap one_if gone in
      let own : g b ≡ size_at s (address_of s i b) = ap (λ t. one_if t * size_at s (address_of s i b)) has ∙ one-mul (size_at s (address_of s i b)) in
      let none' : g' b ≡ 0 = ap (λ t. one_if t * size_at s (address_of s i b)) gone ∙ zero-mul (size_at s (address_of s i b)) in
      record {
        within = λ j less left. elim (cases_eq j b) as (λ _. IsTrue (is_start s (address_of s i j))) [
          | inl same ↦ absurd (true≢false (sym left ∙ ap (has_bit (without rest b)) same ∙ gone))
          | inr ne ↦ counts.within j less (sym (other j less ne) ∙ left)
        ];
        objects = moved-one n 1 (below f 64) (below f' 64) (f b) (f' b) _ change one none counts.objects;
        words = moved-one m size (below g 64) (below g' 64) (g b) (g' b) _ change' (own ∙ sym is) none' counts.words;
        few_words = omega (arith, counts.few_words, small);
      }

-- a word more of start bits is counted
more-parts : (f : ℕ → ℕ) (a n : ℕ) → below f (a + n) ≡ below f a + below (λ j. f (a + j)) n
more-parts f a zero = ap (below f) (add-zero a) ∙ sym (add-zero (below f a))
more-parts f a (suc n) =
    let one : n + 1 ≡ suc n = omega arith in
    let end : a + suc n ≡ (a + n) + 1 = omega arith in
    let d : below f (a + suc n) ≡ below f (a + n) + f (a + n) = ap (below f) end ∙ below-more f (a + n) in
    let rest : below f (a + n) ≡ below f a + below (λ j. f (a + j)) n = more-parts f a n in
    let e : below (λ j. f (a + j)) (suc n) ≡ below (λ j. f (a + j)) n + f (a + n) = ap (below (λ j. f (a + j))) (sym one) ∙ below-more (λ j. f (a + j)) n in
    omega (arith, d, rest, e)

pub word-counted : (s : HeapState) (i n m n' m' : ℕ) → CountsBelow s (heap_of s.blocks + 64 * i) n m
    → n' ≡ below (λ j. one_if (is_start s (address_of s i j))) 64
    → m' ≡ below (λ j. one_if (is_start s (address_of s i j)) * size_at s (address_of s i j)) 64
    → m' < 2 ^ 32 → CountsBelow s (heap_of s.blocks + 64 * (i + 1)) (n + n') (m + m')
word-counted s i n m n' m' counts is is' few' =
    let few : n' ≤ 64 = few-started s i n' is in
    let end : heap_of s.blocks + 64 * (i + 1) ≡ heap_of s.blocks + 64 * i + 64 = omega arith in
    let d : below (held_at s) (heap_of s.blocks + 64 * (i + 1)) ≡ below (held_at s) (heap_of s.blocks + 64 * i) + below (λ j. held_at s (heap_of s.blocks + 64 * i + j)) 64 = ap (below (held_at s)) end ∙ more-parts (held_at s) (heap_of s.blocks + 64 * i) 64 in
    let d' : below (words_at s) (heap_of s.blocks + 64 * (i + 1)) ≡ below (words_at s) (heap_of s.blocks + 64 * i) + below (λ j. words_at s (heap_of s.blocks + 64 * i + j)) 64 = ap (below (words_at s)) end ∙ more-parts (words_at s) (heap_of s.blocks + 64 * i) 64 in
    record {
      from = omega arith;
      objects = ap₂ (λ (a b : ℕ). a + b) counts.objects is ∙ sym d;
      words = ap₂ (λ (a b : ℕ). a + b) counts.words is' ∙ sym d';
      few = omega (arith, counts.few, few);
      few_words = omega (arith, counts.few_words, few');
    }

pub few-words : (s : HeapState) (i rest n m : ℕ) → CountsBut s i rest n m → m ≤ 2 ^ 26
few-words s i rest n m counts = omega (arith, counts.few_words, few-counted s i rest n m counts)
