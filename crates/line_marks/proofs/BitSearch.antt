-- Bits of shifted and complemented words, and of lists of words.
use Rattle.std.proofs.Common.{◌≡◌, ◌↔◌, sym, ◌∙◌, ap, subst, ℕ, suc, ◌+◌, ◌*◌, ◌-◌, ◌/◌, ◌%◌, ◌^◌, ◌<◌, ◌≤◌, inl, inr, w64, arith, true, false, nat_eq, eq-eqb, List, length, slice_index}
use Rattle.std.specs.Int.{bit_at, bit_not}
use Rattle.std.specs.Int.Count.{count_leading_zeros, count_trailing_zeros}
use Rattle.std.proofs.Math.Nat.{div-le_self, div-eq_of_lt-le, pow-suc}
use Rattle.std.proofs.lemmas.Bool.{eqb-true, cases_lt, cases_eq, false_from_ne_true}
use Rattle.std.proofs.lemmas.Nat.{shr-shr, leading_top}
use Rattle.std.proofs.lemmas.Nat.Bits.{bit_at-lt, bit_at-zero, bit_at_not, bit_at_above, bit_at-trailing_zeros}
use Rattle.line_marks.specs.Bits.{bit_in, IsFirstSet, HasNoneSet, IsLastBit}

-- a bit after a shift
pub shifted : (word from m : ℕ) → from ≤ m → bit_at (word / 2 ^ from) (m - from) ≡ bit_at word m
shifted word from m after = ap (λ x. x % 2) (shr-shr word from (m - from)) ∙ ap (λ n. word / 2 ^ n % 2) (let e : from + (m - from) ≡ m = omega arith in e)

pub none-shifted : (word from : ℕ) → word / 2 ^ from ≡ 0 → HasNoneSet word from
none-shifted word from none m later below = sym (shifted word from m later) ∙ ap (λ x. bit_at x (m - from)) none ∙ bit_at-zero (m - from)

pub first-shifted : (word from : ℕ) → word < 2 ^ 64 → 0 < word / 2 ^ from → IsFirstSet word from (from + count_trailing_zeros 64 (word / 2 ^ from))
first-shifted word from fits some =
    let rest : ℕ = word / 2 ^ from in
    let n : ℕ = count_trailing_zeros 64 rest in
    let small : rest < 2 ^ 64 = omega (arith, div-le_self word (2 ^ from)) in
    let found = bit_at-trailing_zeros w64 rest some small in
    let here : bit_at word (from + n) ≡ 1 = sym (shifted word from (from + n) (omega arith)) ∙ ap (λ j. bit_at rest j) (let e : from + n - from ≡ n = omega arith in e) ∙ found.1 in
    record {
      after = omega arith;
      inside = elim (cases_lt (from + n) 64) as (λ _. from + n < 64) [
        | inl less ↦ less
        | inr above ↦ absurd (let nil : bit_at word (from + n) ≡ 0 = bit_at_above word 64 (from + n) fits above in omega arith)
      ];
      set = here;
      others = λ m from_on below. sym (shifted word from m from_on) ∙ found.2 (m - from) (omega arith);
    }

-- the bits of a word's complement
pub with-false : (word n : ℕ) → word < 2 ^ 64 → n < 64 → (bit_at (bit_not w64 word) n ≡ 1) ↔ (nat_eq (bit_at word n) 1 ≡ false)
with-false word n fits below =
    let turned : bit_at (bit_not w64 word) n ≡ 1 - bit_at word n = bit_at_not w64 word n fits below in
    let bit : bit_at word n < 2 = bit_at-lt word n in (
      (λ e. false_from_ne_true (nat_eq (bit_at word n) 1) (λ same. let one : bit_at word n ≡ 1 = eqb-true (bit_at word n) 1 same in omega arith)),
      (λ e. elim (cases_eq (bit_at word n) 1) as (λ _. bit_at (bit_not w64 word) n ≡ 1) [
        | inl one ↦ let same : nat_eq (bit_at word n) 1 ≡ true = eq-eqb (bit_at word n) 1 one in let wrong : false ≡ true = sym e ∙ same in cc
        | inr other ↦ omega arith
      ]),
    )

-- a bit of a list of words, by its word
pub bit-of : (words : List ℕ) (i n : ℕ) → n < 64 → bit_in words (64 * i + n) ≡ nat_eq (bit_at (slice_index words i) n) 1
bit-of words i n below = ap (λ p. nat_eq (bit_at (slice_index words p) ((64 * i + n) % 64)) 1) (let e : (64 * i + n) / 64 ≡ i = omega arith in e) ∙ ap (λ q. nat_eq (bit_at (slice_index words i) q) 1) (let e : (64 * i + n) % 64 ≡ n = omega arith in e)

-- the same at any bit of that word
pub bit-there : (words : List ℕ) (i m : ℕ) → 64 * i ≤ m → m < 64 * i + 64 → bit_in words m ≡ nat_eq (bit_at (slice_index words i) (m - 64 * i)) 1
bit-there words i m from below = ap (bit_in words) (let e : m ≡ 64 * i + (m - 64 * i) = omega arith in e) ∙ bit-of words i (m - 64 * i) (omega arith)

-- a set bit is 1
pub one-bit : (words : List ℕ) (i n : ℕ) → n < 64 → bit_at (slice_index words i) n ≡ 1 → bit_in words (64 * i + n) ≡ true
one-bit words i n below one = bit-of words i n below ∙ eq-eqb (bit_at (slice_index words i) n) 1 one

-- the highest bit of a word that is not 0
pub highest : (word : ℕ) → 0 < word → word < 2 ^ 64 → (n : ℕ) × (count_leading_zeros 64 word + suc n ≡ 64) × (bit_at word n ≡ 1) × ((m : ℕ) → n < m → bit_at word m ≡ 0)
highest word some fits =
    let top = leading_top 64 word some fits in
    let n : ℕ = top.0 in
    (n, top.1, one n top.2 top.3, (λ m above. bit_at_above word (suc n) m top.3 (omega arith)))
  where
    one : (n : ℕ) → 2 ^ n ≤ word → word < 2 ^ suc n → bit_at word n ≡ 1
    one n from below = let e : word / 2 ^ n ≡ 1 = div-eq_of_lt-le {k = 1} (2 ^ n) (omega arith) (omega (arith, pow-suc 2 n)) in ap (λ x. x % 2) e

-- the highest set bit of the last word that is not 0
pub last-found : (words : List ℕ) (i : ℕ) → i < length words → 0 < slice_index words i → slice_index words i < 2 ^ 64
    → ((m : ℕ) → 64 * (i + 1) ≤ m → m < 64 * length words → bit_in words m ≡ true → ⊥)
    → IsLastBit words (64 * i + (63 - count_leading_zeros 64 (slice_index words i)))
last-found words i there some fits none =
    let top = highest (slice_index words i) some fits in
    let n : ℕ = top.0 in
    let e : n ≡ 63 - count_leading_zeros 64 (slice_index words i) = omega (arith, top.1) in
    let small : n < 64 = omega (arith, top.1) in
    subst (λ (q : ℕ). IsLastBit words (64 * i + q)) e (record {
      inside = omega arith;
      set = one-bit words i n small top.2;
      others = λ m below set. elim (cases_lt (64 * i + n) m) as (λ _. m ≤ 64 * i + n) [
        | inr within ↦ within
        | inl above ↦ absurd (elim (cases_lt m (64 * (i + 1))) as (λ _. ⊥) [
          | inr later ↦ none m later below set
          | inl here ↦
              let nil : bit_at (slice_index words i) (m - 64 * i) ≡ 0 = top.3 (m - 64 * i) (omega arith) in
              let one : bit_at (slice_index words i) (m - 64 * i) ≡ 1 = eqb-true (bit_at (slice_index words i) (m - 64 * i)) 1 (sym (bit-there words i m (omega arith) (omega arith)) ∙ set) in
              omega arith
        ])
      ];
    })
